-- What each kind of call tells, told in the words of one call for any operation. Assumes nothing.
use mathlib.Core.Path.{◌≡◌, refl, sym, ap, ◌∙◌}
use mathlib.Core.Bool.{true, false, true≢false}
use mathlib.Core.List.{List, [], ◌∷◌}
use Prim.Native.Nat.{ℕ, ◌<◌}
use native.Mathlib.Omega.{arith}
use Rattle.table.specs.declared.Op.{Op}
use Rattle.table.specs.declared.Op.TheVariants.{Make, Set, SwapR, SwapC, Add, On, Off, Freeze, Resize, Get, Count, Words, TailOnes, Iter, ColOnes, Size}
use Rattle.table.specs.Refusals.{Check, ◌when◌, done, outcome}
use Rattle.table.specs.declared.Sizes.{Sizes}
use Rattle.table.specs.Step.{answer}
use Rattle.table.specs.Room as room
use Rattle.table.specs.Room.{kind, is_make, all_checks}
use Rattle.table.specs.Run.{Reply, reply_of, kept}
use Rattle.model.specs.Store.{Store, Full, table_of, held_of}
use Rattle.model.specs.Step as model
use Rattle.model.specs.Step.{Result, inner, step, result_of}
use Rattle.std.specs.Prelude as std
use Rattle.std.specs.Prelude.{IsErrAnd}
use lib.ListN.{length}
use Rattle.laws.specs.Parts.{stretch}
use Rattle.laws.specs.Words.{words_for}
use Rattle.model.specs.WellFormed.{WellFormed}
use Rattle.laws.proofs.Parts.{stretch-length}
use Rattle.table.specs.Run.{ok, nay}
use Rattle.store_head.specs.declared.refusal.Refusal.{Refusal}
use Rattle.store_head.specs.declared.Size.{Size as Three}
use Rattle.store_head.specs.Lent.{full_of}
use Rattle.store_head.specs.Refused.{number_of}
use Rattle.store_head.specs.Told.{list_told, change_told, sizes as three}
use Rattle.store_head.proofs.Calls.{make-any}
use Rattle.operations.specs.declared.Told.{Told}
use Rattle.operations.specs.declared.Told.TheVariants as told
use Rattle.operations.specs.Applied.{part_at, Form, number, sizes, list, words, form, op_told}

-- an operation is MAKE, or the store is well-formed
pub not-make : (o p : Op) → o ≡ p → is_make (kind p) ≡ false → is_make (kind o) ≡ false
not-make o p e n = ap (λ (q : Op). is_make (kind q)) e ∙ n

-- ---- the answer buffer stands aside where no list is answered
by-checks : (cs : List Check) (s u : Store) (a l : List ℕ)
    → ◌≡◌ {A = Result}
    (record { reply = reply_of (outcome cs (done (full_of u []) l)); after = full_of (kept (outcome cs (done (full_of u []) l)) (full_of s [])).store a })
    (result_of (full_of s a) (outcome cs (done (full_of u a) l)))
by-checks [] s u a l = refl
by-checks ((k when true) ∷ cs) s u a l = refl
by-checks ((k when false) ∷ cs) s u a l = by-checks cs s u a l

abbrev pub beside : Op → Store → List ℕ → Result
beside o s a = record { reply = reply_of (inner o (full_of s [])); after = full_of (kept (inner o (full_of s [])) (full_of s [])).store a }

pub aside : (o : Op) → room.listed (kind o) ≡ false → (s : Store) (a : List ℕ) → beside o s a ≡ result_of (full_of s a) (inner o (full_of s a))
unfolding inner
aside (Make p) n s a = by-checks (all_checks true (Make p) (held_of (full_of s a))) s (model.changed (Make p) s) a (answer (Make p) (table_of s))
aside (Set p) n s a = by-checks (all_checks true (Set p) (held_of (full_of s a))) s (model.changed (Set p) s) a (answer (Set p) (table_of s))
aside (SwapR p) n s a = by-checks (all_checks true (SwapR p) (held_of (full_of s a))) s (model.changed (SwapR p) s) a (answer (SwapR p) (table_of s))
aside (SwapC p) n s a = by-checks (all_checks true (SwapC p) (held_of (full_of s a))) s (model.changed (SwapC p) s) a (answer (SwapC p) (table_of s))
aside (Add p) n s a = by-checks (all_checks true (Add p) (held_of (full_of s a))) s (model.changed (Add p) s) a (answer (Add p) (table_of s))
aside On n s a = by-checks (all_checks true On (held_of (full_of s a))) s (model.changed On s) a (answer On (table_of s))
aside Off n s a = by-checks (all_checks true Off (held_of (full_of s a))) s (model.changed Off s) a (answer Off (table_of s))
aside (Freeze p) n s a = by-checks (all_checks true (Freeze p) (held_of (full_of s a))) s (model.changed (Freeze p) s) a (answer (Freeze p) (table_of s))
aside (Resize p) n s a = by-checks (all_checks true (Resize p) (held_of (full_of s a))) s (model.changed (Resize p) s) a (answer (Resize p) (table_of s))
aside (Get p) n s a = by-checks (all_checks true (Get p) (held_of (full_of s a))) s s a (answer (Get p) (table_of s))
aside (Count p) n s a = by-checks (all_checks true (Count p) (held_of (full_of s a))) s s a (answer (Count p) (table_of s))
aside (Words p) n s a = by-checks (all_checks true (Words p) (held_of (full_of s a))) s s a (answer (Words p) (table_of s))
aside (TailOnes p) n s a = absurd (true≢false n)
aside (Iter p) n s a = absurd (true≢false n)
aside (ColOnes p) n s a = absurd (true≢false n)
aside Size n s a = by-checks (all_checks true Size (held_of (full_of s a))) s s a (answer Size (table_of s))

-- ---- o is p, which an inner twin did
pub as-done : (o p : Op) → o ≡ p → (f : Full) (r : Result) → r ≡ result_of f (inner p f) → r ≡ result_of f (inner o f)
as-done o p e f r q = q ∙ ap (λ (k : Op). result_of f (inner k f)) (sym e)

-- .. and left the store u, which is v
pub as-left : (o p : Op) → o ≡ p → (f : Full) (r : std.Result (Unit {0}) Refusal) (u v : Store) → u ≡ v → change_told r u ≡ result_of f (inner p f) → change_told r v ≡ result_of f (inner o f)
as-left o p e f r u v h q = ap (change_told r) (sym h) ∙ as-done o p e f (change_told r u) q

-- ---- a question that answers no list leaves the store
quiet : (cs : List Check) (s : Store) (l : List ℕ) → (kept (outcome cs (done (full_of s []) l)) (full_of s [])).store ≡ s
quiet [] s l = refl
quiet ((k when true) ∷ cs) s l = refl
quiet ((k when false) ∷ cs) s l = quiet cs s l

module _ (o p : Op) (e : o ≡ p) (n : room.listed (kind p) ≡ false) (s : Store) (a : List ℕ) (still : (kept (inner p (full_of s [])) (full_of s [])).store ≡ s) where
  asked : (r : Reply) → r ≡ reply_of (inner p (full_of s [])) → ◌≡◌ {A = Result} (record { reply = r; after = full_of s a }) (result_of (full_of s a) (inner o (full_of s a)))
  asked r q = as-done o p e (full_of s a) (record { reply = r; after = full_of s a }) (both ∙ aside p n s a)
    where
      back : s ≡ (kept (inner p (full_of s [])) (full_of s [])).store
      back = sym still

      both : ◌≡◌ {A = Result} (record { reply = r; after = full_of s a }) (beside p s a)
      both i = record { reply = q i; after = full_of (back i) a }

  -- p answers in its form, so o does
  module _ (at : ℕ) where
    pub numbers : form p ≡ number → (z : ℕ) → ok (z ∷ []) ≡ reply_of (inner p (full_of s [])) → op_told (form o) at s (std.Ok (told.Number z)) a ≡ result_of (full_of s a) (inner o (full_of s a))
    numbers i z q = rw (ap form e ∙ i) (asked (ok (z ∷ [])) q)

    pub size : form p ≡ sizes → (z : Three) → ok (three z) ≡ reply_of (inner p (full_of s [])) → op_told (form o) at s (std.Ok (told.Sizes z)) a ≡ result_of (full_of s a) (inner o (full_of s a))
    size i z q = rw (ap form e ∙ i) (asked (ok (three z)) q)

  -- the words that are handed back stand where the operation says
  pub row_words : form p ≡ words → (l : List ℕ) (size : ℕ) → l ≡ stretch s.words (part_at p s) size → ok l ≡ reply_of (inner p (full_of s []))
      → op_told (form o) (part_at o s) s (std.Ok (told.Words (length l))) a ≡ result_of (full_of s a) (inner o (full_of s a))
  row_words i l size el q =
      rw (ap form e ∙ i, ap (λ (h : Op). part_at h s) e) (ap (λ r. record { reply = ok r; after = full_of s a }) same ∙ asked (ok l) q)
    where
      long : length l ≡ size
      long = ap length el ∙ stretch-length s.words (part_at p s) size

      same : stretch s.words (part_at p s) (length l) ≡ l
      same = ap (stretch s.words (part_at p s)) long ∙ sym el

  -- refused, and the refusal handed on
  pub refuses : (f : Form) (at : ℕ) (t : std.Result Told Refusal) (k : Refusal) → IsErrAnd t (λ j. j ≡ k) → nay (number_of k) ≡ reply_of (inner p (full_of s []))
      → op_told f at s t a ≡ result_of (full_of s a) (inner o (full_of s a))
  refuses f at (std.Ok x) k h q = absurd h
  refuses f at (std.Err j) k h q = ap (λ r. op_told f at s (std.Err r) a) h ∙ asked (nay (number_of k)) q

-- they are few
pub words-few : (s : Store) → WellFormed s → (at : ℕ) (l : List ℕ) → l ≡ stretch s.words at (words_for s.head.n) → length l < 4294967296
words-few s v at l e = omega (arith, ap length e, stretch-length s.words at (words_for s.head.n), v.limits.tail, v.maps.wide, v.limits.width)

-- ---- a list
module _ (o p : Op) (e : o ≡ p) (at : ℕ) (s : Store) (a b : List ℕ) where
  pub lists : form p ≡ list → (c : ℕ) → list_told s (std.Ok c) b ≡ result_of (full_of s a) (inner p (full_of s a)) → op_told (form o) at s (std.Ok (told.List c)) b ≡ result_of (full_of s a) (inner o (full_of s a))
  lists g c q = rw (ap form e ∙ g) (as-done o p e (full_of s a) (list_told s (std.Ok c) b) q)

  pub refuses-list : (f : Form) (t : std.Result Told Refusal) (k : Refusal) → IsErrAnd t (λ j. j ≡ k) → list_told s (std.Err k) b ≡ result_of (full_of s a) (inner p (full_of s a))
      → op_told f at s t b ≡ result_of (full_of s a) (inner o (full_of s a))
  refuses-list f (std.Ok x) k h q = absurd h
  refuses-list f (std.Err j) k h q = ap (λ r. op_told f at s (std.Err r) b) h ∙ as-done o p e (full_of s a) (list_told s (std.Err k) b) q

-- ---- which questions leave the store
pub get-still : (p : _) (s : Store) → (kept (inner (Get p) (full_of s [])) (full_of s [])).store ≡ s
unfolding inner
get-still p s = quiet (all_checks true (Get p) (held_of (full_of s []))) s (answer (Get p) (table_of s))

pub count-still : (p : _) (s : Store) → (kept (inner (Count p) (full_of s [])) (full_of s [])).store ≡ s
unfolding inner
count-still p s = quiet (all_checks true (Count p) (held_of (full_of s []))) s (answer (Count p) (table_of s))

pub words-still : (p : _) (s : Store) → (kept (inner (Words p) (full_of s [])) (full_of s [])).store ≡ s
unfolding inner
words-still p s = quiet (all_checks true (Words p) (held_of (full_of s []))) s (answer (Words p) (table_of s))

pub size-still : (s : Store) → (kept (inner Size (full_of s [])) (full_of s [])).store ≡ s
unfolding inner
size-still s = quiet (all_checks true Size (held_of (full_of s []))) s (answer Size (table_of s))

-- ---- MAKE asks for no well-formed store
pub make-inner : (p : Sizes) (f : Full) → step (Make p) f ≡ inner (Make p) f
make-inner p f = sym (make-any (Make p) f refl)
