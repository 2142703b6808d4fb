-- What is told of a call is there to be read, and its line is the line of the definition's reply. Assumes nothing.
use mathlib.Core.Path.{◌≡◌, refl, sym, ap, ◌∙◌}
use mathlib.Core.Bool.{true, false}
use mathlib.Core.List.{List}
use Prim.Native.Nat.{ℕ, ◌+◌, ◌-◌, ◌≤◌, ◌<◌}
use native.Mathlib.Omega.{arith}
use borrow.Author.Tests.{leb-true}
use lib.Dec.{leb}
use lib.ListN.{length, length-append, take, drop}
use Rattle.laws.specs.Parts.{stretch, over}
use Rattle.laws.specs.Words.{words_for}
use Rattle.laws.proofs.Parts.{stretch-length, stretch-part, part-is, tabled-length}
use Rattle.table.specs.declared.Op.{Op}
use Rattle.table.specs.declared.Op.TheVariants as op
use Rattle.table.specs.Step.{answer}
use Rattle.table.specs.Table.{tail_word}
use Rattle.table.specs.Run.{Reply, ok, nay, reply_of}
use Rattle.model.specs.Store.{Store, Full, home_row, table_of}
use Rattle.model.specs.WellFormed.{WellFormed}
use Rattle.model.specs.Step.{Result, full_after, step, inner, result_of}
use Rattle.std.proofs.lemmas.List.{map-id}
use Rattle.std.specs.Prelude.{map, Result as Either, Ok, Err, Some, None}
use Rattle.store_head.specs.declared.refusal.Refusal.{Refusal}
use Rattle.store_head.specs.Lent.{full_of}
use Rattle.store_head.specs.Refused.{refusal_of}
use Rattle.store_head.proofs.Refuses.{accepted, none_told}
use Rattle.store_head.proofs.Replies.{values}
use Rattle.store_head.proofs.QueryPlaces.{words-in}
use Rattle.lines.specs.declared.Lines.{Lines}
use Rattle.lines.specs.Line.{line_of, line_long}
use Rattle.lines.specs.Wrote.{HasRoom, Wrote}
use Rattle.lines.proofs.Writing.{long_ok, long-no}
use Rattle.operations.specs.declared.Told.{Told}
use Rattle.operations.specs.declared.Told.TheVariants as told
use Rattle.operations.specs.Applied.{Form, done, number, sizes, list, words, form, part_at, says_told, says, op_told}
use Rattle.model.proofs.EveryStepIsTheTables.{step-is-inner}
use Rattle.operations.proofs.Determined.{never-zero}
use Rattle.turns.specs.Said.{said, places_read, words_read, CanPut}
use Rattle.turns.specs.Turned.{turn_by, turn_told}
use Rattle.turns.proofs.Measuring.{words-low}
use Rattle.turns.proofs.Turned.{wrote, stays}

-- the form of what is told
abbrev form_of : Told → Form
form_of told.Done = done
form_of (told.Number x) = number
form_of (told.Sizes p) = sizes
form_of (told.List c) = list
form_of (told.Words c) = words

-- what says more than the number 0 is in the operation's form, and says what is told
in-form : (t : Told) (g : Form) (at : ℕ) (ws answers : List ℕ) → (says_told t g at ws answers ≡ nay 0 → ⊥) → (said (Ok t) at ws answers ≡ says_told t g at ws answers) × (g ≡ form_of t)
in-form told.Done done at ws answers n = (refl, refl)
in-form told.Done number at ws answers n = absurd (n refl)
in-form told.Done sizes at ws answers n = absurd (n refl)
in-form told.Done list at ws answers n = absurd (n refl)
in-form told.Done words at ws answers n = absurd (n refl)
in-form (told.Number x) done at ws answers n = absurd (n refl)
in-form (told.Number x) number at ws answers n = (refl, refl)
in-form (told.Number x) sizes at ws answers n = absurd (n refl)
in-form (told.Number x) list at ws answers n = absurd (n refl)
in-form (told.Number x) words at ws answers n = absurd (n refl)
in-form (told.Sizes p) done at ws answers n = absurd (n refl)
in-form (told.Sizes p) number at ws answers n = absurd (n refl)
in-form (told.Sizes p) sizes at ws answers n = (refl, refl)
in-form (told.Sizes p) list at ws answers n = absurd (n refl)
in-form (told.Sizes p) words at ws answers n = absurd (n refl)
in-form (told.List c) done at ws answers n = absurd (n refl)
in-form (told.List c) number at ws answers n = absurd (n refl)
in-form (told.List c) sizes at ws answers n = absurd (n refl)
in-form (told.List c) list at ws answers n = (refl, refl)
in-form (told.List c) words at ws answers n = absurd (n refl)
in-form (told.Words c) done at ws answers n = absurd (n refl)
in-form (told.Words c) number at ws answers n = absurd (n refl)
in-form (told.Words c) sizes at ws answers n = absurd (n refl)
in-form (told.Words c) list at ws answers n = absurd (n refl)
in-form (told.Words c) words at ws answers n = (refl, refl)

-- the forms are apart
abbrev place : Form → ℕ
place done = 0
place number = 1
place sizes = 2
place list = 3
place words = 4

-- no refusal has the number 0
never : (o : Op) (f : Full) → WellFormed f.store → reply_of (inner o f) ≡ nay 0 → ⊥
never o f v e = never-zero o f (ap reply_of (step-is-inner o f v) ∙ e)

-- ---- what is read is there
over-long : (l m a : List ℕ) (c : ℕ) → c ≡ length l → m ≡ over l a → c ≤ length m
unfolding over
over-long l m a c e q = rw q (simp length-append (omega (arith, e)))

-- a list is what is over the answer buffer
listed-there : (o : Op) → form o ≡ list → (f : Full) (m : List ℕ) (c : ℕ) → c ≡ length (answer o (table_of f.store)) → m ≡ (full_after o f).answers → c ≤ length m
listed-there (op.TailOnes p) i f m c e q = over-long (answer (op.TailOnes p) (table_of f.store)) m f.answers c e q
listed-there (op.Iter p) i f m c e q = over-long (answer (op.Iter p) (table_of f.store)) m f.answers c e q
listed-there (op.ColOnes p) i f m c e q = over-long (answer (op.ColOnes p) (table_of f.store)) m f.answers c e q
listed-there (op.Make p) i f m c e q = absurd (omega (arith, ap place i))
listed-there (op.Set p) i f m c e q = absurd (omega (arith, ap place i))
listed-there (op.SwapR p) i f m c e q = absurd (omega (arith, ap place i))
listed-there (op.SwapC p) i f m c e q = absurd (omega (arith, ap place i))
listed-there (op.Add p) i f m c e q = absurd (omega (arith, ap place i))
listed-there op.On i f m c e q = absurd (omega (arith, ap place i))
listed-there op.Off i f m c e q = absurd (omega (arith, ap place i))
listed-there (op.Freeze p) i f m c e q = absurd (omega (arith, ap place i))
listed-there (op.Resize p) i f m c e q = absurd (omega (arith, ap place i))
listed-there (op.Get p) i f m c e q = absurd (omega (arith, ap place i))
listed-there (op.Count p) i f m c e q = absurd (omega (arith, ap place i))
listed-there (op.Words p) i f m c e q = absurd (omega (arith, ap place i))
listed-there op.Size i f m c e q = absurd (omega (arith, ap place i))

-- the words are the row's
words-there : (o : Op) → form o ≡ words → (f : Full) → WellFormed f.store → 0 ≡ refusal_of (inner o f) → (ws : List ℕ) (c : ℕ) → c ≡ length (answer o (table_of f.store)) → ws ≡ (full_after o f).store.words
    → part_at o f.store + c ≤ length ws
words-there (op.Words p) i f v free ws c e q =
    let long : c ≡ words_for f.store.head.n = e ∙ tabled-length (words_for f.store.head.n) (tail_word (table_of f.store) p.r) in
    rw (q, long) (words-in f.store v p.r (home_row f.store p.r) (words-low p f free) refl (home_row f.store p.r) refl).fits
words-there (op.Make p) i f v free ws c e q = absurd (omega (arith, ap place i))
words-there (op.Set p) i f v free ws c e q = absurd (omega (arith, ap place i))
words-there (op.SwapR p) i f v free ws c e q = absurd (omega (arith, ap place i))
words-there (op.SwapC p) i f v free ws c e q = absurd (omega (arith, ap place i))
words-there (op.Add p) i f v free ws c e q = absurd (omega (arith, ap place i))
words-there op.On i f v free ws c e q = absurd (omega (arith, ap place i))
words-there op.Off i f v free ws c e q = absurd (omega (arith, ap place i))
words-there (op.Freeze p) i f v free ws c e q = absurd (omega (arith, ap place i))
words-there (op.Resize p) i f v free ws c e q = absurd (omega (arith, ap place i))
words-there (op.Get p) i f v free ws c e q = absurd (omega (arith, ap place i))
words-there (op.Count p) i f v free ws c e q = absurd (omega (arith, ap place i))
words-there (op.TailOnes p) i f v free ws c e q = absurd (omega (arith, ap place i))
words-there (op.Iter p) i f v free ws c e q = absurd (omega (arith, ap place i))
words-there (op.ColOnes p) i f v free ws c e q = absurd (omega (arith, ap place i))
words-there op.Size i f v free ws c e q = absurd (omega (arith, ap place i))

-- no line is empty
some-long : (r : Reply) → 0 < line_long r
some-long (ok l) = omega (arith, long_ok l)
some-long (nay k) = omega (arith, long-no k)

module _ (o : Op) (f : Full) (v : WellFormed f.store) (u : Store) (answers : List ℕ) where
  abbrev Call : Either Told Refusal → Type 0
  Call t = op_told (form o) (part_at o f.store) u t answers ≡ result_of f (inner o f)

  spoken : (t : Either Told Refusal) → Call t → says t (form o) (part_at o f.store) u.words answers ≡ nay 0 → ⊥
  spoken t e z = never o f v (sym (ap (λ (r : Result). r.reply) e) ∙ z)

  is-form : (t : Told) → Call (Ok t) → form o ≡ form_of t
  is-form t e = (in-form t (form o) (part_at o f.store) u.words answers (spoken (Ok t) e)).1

  -- c numbers l that an accepted call says are as many as it answers, and it leaves what the definition leaves
  module _ (l : List ℕ) (c : ℕ) (ec : length l ≡ c) (e : ◌≡◌ {A = Result} (record { reply = ok l; after = full_of u answers }) (result_of f (inner o f))) where
    free : 0 ≡ refusal_of (inner o f)
    free = none_told o f (full_of u answers) l e

    counted-by : c ≡ length (answer o (table_of f.store))
    unfolding values
    counted-by = sym ec ∙ ap (λ (r : Result). length (values r.reply)) (e ∙ accepted o f free)

    leaves : full_of u answers ≡ full_after o f
    leaves = ap (λ (r : Result). r.after) (e ∙ accepted o f free)

  places : (t : Either Told Refusal) → Call t → places_read t ≤ length answers
  places (Ok told.Done) e = omega arith
  places (Ok (told.Number x)) e = omega arith
  places (Ok (told.Sizes p)) e = omega arith
  places (Ok (told.List c)) e =
      let i = is-form (told.List c) e in
      let q = rw i at e in
      let l = stretch answers 0 c in
      listed-there o i f answers c (counted-by l c (stretch-length answers 0 c) q) (ap (λ (g : Full). g.answers) (leaves l c (stretch-length answers 0 c) q))
  places (Ok (told.Words c)) e = omega arith
  places (Err k) e = omega arith

  tail-words : (t : Either Told Refusal) → Call t → words_read t (part_at o f.store) ≤ length u.words
  tail-words (Ok told.Done) e = omega arith
  tail-words (Ok (told.Number x)) e = omega arith
  tail-words (Ok (told.Sizes p)) e = omega arith
  tail-words (Ok (told.List c)) e = omega arith
  tail-words (Ok (told.Words c)) e =
      let i = is-form (told.Words c) e in
      let q = rw i at e in
      let l = stretch u.words (part_at o f.store) c in
      let long = stretch-length u.words (part_at o f.store) c in
      words-there o i f v (free l c long q) u.words c (counted-by l c long q) (ap (λ (g : Full). g.store.words) (leaves l c long q))
  tail-words (Err k) e = omega arith

  -- ---- one call's line
  said-is : (t : Either Told Refusal) → Call t → said t (part_at o f.store) u.words answers ≡ says t (form o) (part_at o f.store) u.words answers
  said-is (Ok t) e = (in-form t (form o) (part_at o f.store) u.words answers (spoken (Ok t) e)).0
  said-is (Err k) e = refl

  module _ (t : Either Told Refusal) (e : op_told (form o) (part_at o f.store) u t answers ≡ result_of f (inner o f)) where
    reply-said : said t (part_at o f.store) u.words answers ≡ reply_of (inner o f)
    reply-said = said-is t e ∙ ap (λ (r : Result). r.reply) e

    module _ (a : Lines) (at : ℕ) (ea : at ≡ part_at o f.store) (fits : leb (line_long (reply_of (inner o f))) (length a.bytes.now - a.used) ≡ true) where
      reply-is : said t at u.words answers ≡ reply_of (inner o f)
      reply-is = ap (λ (k : ℕ). said t k u.words answers) ea ∙ reply-said

      pub can-put : CanPut t at u.words answers a
      can-put =
          record {
            places = places t e;
            words = rw ea (tail-words t e);
            room = rw reply-is (omega (arith, leb-true (line_long (reply_of (inner o f))) (length a.bytes.now - a.used) fits, some-long (reply_of (inner o f))));
          }

      -- it fits: it is written, and the work is done
      pub gone : (next : ℕ) (b : Lines) → Wrote a b (line_of (said t at u.words answers)) → turn_told (Some next) (full_of u answers) b ≡ turn_by (step o f) next a.used a.bytes.now f
      gone next b w =
          rw (step-is-inner o f v)
          (wrote (inner o f) next f a fits b (rw (sym reply-is) w) (full_of u answers) (ap (λ (r : Result). r.after) e))

-- the line does not fit: nothing is done
pub stopped : (o : Op) (f : Full) → WellFormed f.store → (next : ℕ) (a : Lines) → leb (line_long (reply_of (inner o f))) (length a.bytes.now - a.used) ≡ false
    → turn_told None f a ≡ turn_by (step o f) next a.used a.bytes.now f
stopped o f v next a short = rw (step-is-inner o f v) (stays (inner o f) next f a short)

-- ---- what is written is what is told
list-shown : (l : List ℕ) (c : ℕ) → c ≤ length l → map (λ n. n) (take c l) ≡ stretch l 0 c
list-shown l c h = map-id (take c l) ∙ ap (λ k. take k (drop 0 l)) more ∙ part-is l 0 c ∙ sym (stretch-part l 0 c (omega arith))
  where
    more : c ≡ 0 + c - 0
    more = omega arith

words-shown : (l : List ℕ) (at c : ℕ) → at + c ≤ length l → map (λ n. n) (take (at + c - at) (drop at l)) ≡ stretch l at c
words-shown l at c h = map-id (take (at + c - at) (drop at l)) ∙ part-is l at c ∙ sym (stretch-part l at c h)

module _ (t : Either Told Refusal) (c at : ℕ) (ws answers : List ℕ) (a : Lines) (p : CanPut t at ws answers a) where
  module _ (x : Told) (ex : t ≡ Ok x) (el : x ≡ told.List c) where
    is-list : t ≡ Ok (told.List c)
    is-list = ex ∙ ap Ok el

    listed : map (λ n. n) (take c answers) ≡ stretch answers 0 c
    listed = list-shown answers c (rw is-list at p.places)

    pub list-room : HasRoom a (line_of (ok (map (λ n. n) (take c answers))))
    list-room = rw listed (rw is-list at p.room)

    pub list-wrote : (b : Lines) → Wrote a b (line_of (ok (map (λ n. n) (take c answers)))) → Wrote a b (line_of (said t at ws answers))
    list-wrote b w = rw (is-list, sym listed) w

  module _ (x : Told) (ex : t ≡ Ok x) (el : x ≡ told.Words c) where
    is-words : t ≡ Ok (told.Words c)
    is-words = ex ∙ ap Ok el

    worded : map (λ n. n) (take (at + c - at) (drop at ws)) ≡ stretch ws at c
    worded = words-shown ws at c (rw is-words at p.words)

    pub words-room : HasRoom a (line_of (ok (map (λ n. n) (take (at + c - at) (drop at ws)))))
    words-room = rw worded (rw is-words at p.room)

    pub words-wrote : (b : Lines) → Wrote a b (line_of (ok (map (λ n. n) (take (at + c - at) (drop at ws))))) → Wrote a b (line_of (said t at ws answers))
    words-wrote b w = rw (is-words, sym worded) w
