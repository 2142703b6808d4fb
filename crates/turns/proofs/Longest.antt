-- The longest line that an operation can have: a refusal's number has at most two digits, rows, columns and counts five, a tail word twenty. Assumes nothing.
use mathlib.Core.Path.{◌≡◌, refl, sym, ◌∙◌}
use mathlib.Core.Bool.{Bool, true, false, ◌&&◌}
use mathlib.Core.List.{List, [], ◌∷◌}
use Prim.Native.Nat.{ℕ, zero, suc, ◌+◌, ◌-◌, ◌*◌, ◌^◌, ◌≤◌, ◌<◌, min}
use native.Mathlib.Nat.{mul-le-mul_right, suc-mul, pow-suc, min-le_right}
use native.Mathlib.Omega.{arith}
use lib.Dec.{leb, ltb}
use lib.ListN.{length, length-append}
use borrow.Author.Tests.{leb-true, le-leb, ltb-true, ltb-false}
use Rattle.laws.specs.Plain.{num, between}
use Rattle.laws.specs.Rows.{member}
use Rattle.laws.specs.Words.{words_for, value}
use Rattle.laws.specs.Parts.{tabled}
use Rattle.laws.proofs.Bools.{and_first, and_second, quiet-first, quiet-rest}
use Rattle.laws.proofs.Members.{member-head, member-later, member-place}
use Rattle.laws.proofs.Select.{select-member, count_most}
use Rattle.laws.proofs.Parts.{tabled-length, tabled-at}
use Rattle.table.specs.declared.Op.{Op}
use Rattle.table.specs.declared.Op.TheVariants.{Make, Set, SwapR, SwapC, Add, On, Off, Freeze, Resize, Get, Count, Words, TailOnes, Iter, ColOnes, Size}
use Rattle.table.specs.Refusals.{Refusal, DAMAGED, SIZE, BUFFERS, ROW, COLUMN, SIDE, SAME, SHRINK, PHASE, SINGLE, SPENT, SLOTS, WORDS, ENTRIES, ANSWER, RECORD, CUT, number, Check, ◌when◌, done, outcome}
use Rattle.table.specs.Table.{Table, edge, tail_word}
use Rattle.table.specs.Step.{answer}
use Rattle.table.specs.Room.{all_checks, passes}
use Rattle.table.specs.Run.{ok, nay, reply_of}
use Rattle.table.proofs.Sorting.{sort-member}
use Rattle.model.specs.Store.{Full, table_of, held_of}
use Rattle.model.specs.WellFormed.{WellFormed}
use Rattle.model.specs.Step.{inner, full_after}
use Rattle.lines.specs.Line.{dec, spaced, numbers, line_long}
use Rattle.lines.proofs.Dec.{one-long, dec-short}
use Rattle.lines.proofs.Writing.{long_ok, long-no, long-none, long-one, long-three}
use Rattle.operations.specs.Applied.{Form, form}
use Rattle.operations.specs.Applied as told
use Rattle.turns.specs.Said.{most_long}

-- ---- lists of numbers with at most m digits each
numbers-most : (m : ℕ) (l : List ℕ) → ((z : ℕ) → member z l ≡ true → length (dec z) ≤ m) → length (numbers l) ≤ length l * suc m
unfolding numbers
numbers-most m [] h = omega arith
numbers-most m (x ∷ l) h =
    omega (arith, length-append (spaced x) (numbers l), h x (member-head x l), numbers-most m l (λ z e. h z (member-later x z l e)), suc-mul (length l) (suc m))

list-most : (m k : ℕ) (l : List ℕ) → ((z : ℕ) → member z l ≡ true → length (dec z) ≤ m) → length l ≤ k → line_long (ok l) ≤ 3 + k * suc m
list-most m k l h few = omega (arith, long_ok l, numbers-most m l h, mul-le-mul_right (suc m) few)

five : (n : ℕ) → n ≤ 65535 → length (dec n) ≤ 5
five n h = dec-short 4 n (omega arith)

twenty : (n : ℕ) → n < 2 ^ 64 → length (dec n) ≤ 20
twenty n h = dec-short 19 n (omega arith)

-- ---- a refusal
two_digits : (k : Refusal) → number k < 10 ^ 2
two_digits DAMAGED = omega arith
two_digits SIZE = omega arith
two_digits BUFFERS = omega arith
two_digits ROW = omega arith
two_digits COLUMN = omega arith
two_digits SIDE = omega arith
two_digits SAME = omega arith
two_digits SHRINK = omega arith
two_digits PHASE = omega arith
two_digits SINGLE = omega arith
two_digits SPENT = omega arith
two_digits SLOTS = omega arith
two_digits WORDS = omega arith
two_digits ENTRIES = omega arith
two_digits ANSWER = omega arith
two_digits RECORD = omega arith
two_digits CUT = omega arith

refusal-most : (k : Refusal) → line_long (nay (number k)) ≤ 6
refusal-most k = omega (arith, long-no (number k), dec-short 1 (number k) (two_digits k))

-- refused or not
outcome-most : (cs : List Check) (f : Full) (a : List ℕ) (m : ℕ) → 6 ≤ m → (passes cs ≡ true → line_long (ok a) ≤ m) → line_long (reply_of (outcome cs (done f a))) ≤ m
outcome-most [] f a m h g = g refl
outcome-most ((k when true) ∷ cs) f a m h g = omega (arith, refusal-most k)
outcome-most ((k when false) ∷ cs) f a m h g = outcome-most cs f a m h g

-- the test of a check that passed
abbrev test_at : ℕ → List Check → Bool
test_at i [] = false
test_at zero ((k when b) ∷ cs) = b
test_at (suc i) (c ∷ cs) = test_at i cs

quiet : (i : ℕ) (cs : List Check) → passes cs ≡ true → test_at i cs ≡ false
quiet i [] e = refl
quiet zero ((k when b) ∷ cs) e = quiet-first b (passes cs) e
quiet (suc i) ((k when b) ∷ cs) e = quiet i cs (quiet-rest b (passes cs) e)

-- ---- the answers
between-low : (a b z : ℕ) (p : ℕ → Bool) → member z (between a b p) ≡ true → z < b
between-low a b z p e =
    let in-range : leb a z && (ltb z (a + (b - a)) && p z) ≡ true = sym (select-member (b - a) a z p) ∙ e in
    let from : a ≤ z = leb-true a z (and_first (leb a z) _ in-range) in
    let to : z < a + (b - a) = ltb-true z (a + (b - a)) (and_first (ltb z (a + (b - a))) (p z) (and_second (leb a z) _ in-range)) in
    omega arith

with-bit : (v x : ℕ) (b : Bool) → v < x → v + num b * x < 2 * x
with-bit v x true h = omega arith
with-bit v x false h = omega arith

value_low : (k : ℕ) (p : ℕ → Bool) → value k p < 2 ^ k
unfolding value
value_low zero p = omega arith
value_low (suc k) p = omega (arith, with-bit (value k p) (2 ^ k) (p k) (value_low k p), pow-suc 2 k)

words-most : (t : Table) (r : ℕ) → t.n ≤ 65535 → line_long (ok (tabled (words_for t.n) (tail_word t r))) ≤ 21507
words-most t r h = omega (arith, list-most 20 1024 (tabled (words_for t.n) (tail_word t r)) each (omega (arith, tabled-length (words_for t.n) (tail_word t r))))
  where
    each : (z : ℕ) → member z (tabled (words_for t.n) (tail_word t r)) ≡ true → length (dec z) ≤ 20
    each z e =
        member-place (tabled (words_for t.n) (tail_word t r)) z e
        (λ j low at. twenty z (rw (sym at, tabled-at (words_for t.n) (tail_word t r) j (omega (arith, tabled-length (words_for t.n) (tail_word t r)))) (value_low 64 _)))

bit-most : (b : Bool) → line_long (ok (num b ∷ [])) ≤ 9
bit-most true = omega (arith, long-one 1, one-long 1 (omega arith))
bit-most false = omega (arith, long-one 0, one-long 0 (omega arith))

module _ (f : Full) (v : WellFormed f.store) where
  abbrev t : Table
  t = table_of f.store

  width : t.w ≤ 65535
  width = omega (arith, v.maps.wide, v.limits.width)

  tail : t.n ≤ 65535
  tail = omega (arith, width, v.limits.tail)

  -- at most as many numbers as there are answer places, none above the limits
  places-most : (l : List ℕ) → ((z : ℕ) → member z l ≡ true → z ≤ 65535) → ltb (length f.answers) (length l) ≡ false → line_long (ok l) ≤ 6 + length f.answers * 6
  places-most l low room = omega (arith, list-most 5 (length f.answers) l (λ z m. five z (low z m)) (ltb-false (length f.answers) (length l) room))

  answer-most : (o : Op) → passes (all_checks true o (held_of f)) ≡ true → line_long (ok (answer o t)) ≤ most_long (form o) (length f.answers)
  answer-most (Make p) e = omega (arith, long-none)
  answer-most (Set p) e = omega (arith, long-none)
  answer-most (SwapR p) e = omega (arith, long-none)
  answer-most (SwapC p) e = omega (arith, long-none)
  answer-most (Add p) e = omega (arith, long-none)
  answer-most On e = omega (arith, long-none)
  answer-most Off e = omega (arith, long-none)
  answer-most (Freeze p) e = omega (arith, long-none)
  answer-most (Resize p) e = omega (arith, long-none)
  answer-most (Get p) e = bit-most (t.bit p.r p.c)
  answer-most (Count p) e =
      let side : p.b ≤ edge t = ltb-false (edge t) p.b (quiet 2 (all_checks true (Count p) (held_of f)) e) in
      let low : length (between p.a p.b (t.bit p.r)) ≤ 65535 = omega (arith, count_most (p.b - p.a) p.a (t.bit p.r), width) in
      omega (arith, long-one (length (between p.a p.b (t.bit p.r))), five (length (between p.a p.b (t.bit p.r))) low)
  answer-most (Words p) e = words-most t p.r tail
  answer-most (TailOnes p) e = places-most (answer (TailOnes p) t) (λ z m. omega (arith, between-low (edge t) t.w z (t.bit p.r) m, width)) (quiet 3 (all_checks true (TailOnes p) (held_of f)) e)
  answer-most (Iter p) e =
      let side : p.b ≤ edge t = ltb-false (edge t) p.b (quiet 2 (all_checks true (Iter p) (held_of f)) e) in
      places-most (answer (Iter p) t) (λ z m. omega (arith, between-low p.a p.b z (t.bit p.r) (sym (sort-member t.home z (between p.a p.b (t.bit p.r))) ∙ m), side, width))
      (quiet 3 (all_checks true (Iter p) (held_of f)) e)
  answer-most (ColOnes p) e =
      places-most (answer (ColOnes p) t) (λ z m. omega (arith, between-low p.a (min p.b t.h) z (λ r. t.bit r p.c) m, min-le_right p.b t.h, v.limits.height))
      (quiet 5 (all_checks true (ColOnes p) (held_of f)) e)
  answer-most Size e = omega (arith, long-three t.h t.w t.n, five t.h v.limits.height, five t.w width, five t.n tail)

  -- a refusal's line is no longer
  six : (m : Form) → 6 ≤ most_long m (length f.answers)
  six told.done = omega arith
  six told.number = omega arith
  six told.sizes = omega arith
  six told.list = omega arith
  six told.words = omega arith

  pub line-most : (o : Op) → line_long (reply_of (inner o f)) ≤ most_long (form o) (length f.answers)
  unfolding inner
  line-most o = outcome-most (all_checks true o (held_of f)) (full_after o f) (answer o t) (most_long (form o) (length f.answers)) (six (form o)) (answer-most o)

-- the longest line has room: so has this one
pub roomy : (f : Full) → WellFormed f.store → (o : Op) (k room : ℕ) → k ≡ most_long (form o) (length f.answers) → k ≤ room → leb k room ≡ leb (line_long (reply_of (inner o f))) room
roomy f v o k room e h = le-leb k room h ∙ sym (le-leb (line_long (reply_of (inner o f))) room (omega (arith, line-most f v o)))
