-- The sum of two rows, step by step at places of both: what comes next, and how many numbers it has. Assumes nothing.
use mathlib.Core.Path.{◌≡◌, sym, ap, ◌∙◌}
use mathlib.Core.Logic.{◌⊎◌, ⊎_elim}
use mathlib.Core.Bool.{Bool, true, false, not}
use mathlib.Core.List.{List, [], ◌∷◌, ◌++◌, append-nil}
use Prim.Native.Nat.{ℕ, suc, ◌+◌, ◌-◌, ◌≤◌, ◌<◌}
use native.Mathlib.Numerals.{add-one}
use native.Mathlib.Omega.{arith}
use lib.Dec.{leb, eqb}
use lib.ListN.{length, get_or, drop, length-append, length-drop, drop_of_length-le}
use lib.Seq.{drop-cons}
use borrow.Author.Tests.{le-leb, lt-leb, eq-eqb, ne_eqb}
use mir.Syntax.{w64}
use mir.Val.{bool_byte, Fits}
use Rattle.laws.specs.Rows.{xor_merge}
use Rattle.laws.proofs.Numbers.{by_order}
use Rattle.laws.proofs.Merge.{merge-lt, merge-gt, merge-eq, merge-nil, nil-merge}

-- ---- what comes next
module _ (a b : List ℕ) (i j : ℕ) where
  pub at_lt : i < length a → j < length b → get_or a i 0 < get_or b j 0
      → xor_merge (drop i a) (drop j b) ≡ get_or a i 0 ∷ xor_merge (drop (i + 1) a) (drop j b)
  at_lt p q h = rw (add-one, drop-cons a i 0 p, drop-cons b j 0 q) (merge-lt _ _ _ _ h)

  pub at-gt : i < length a → j < length b → get_or b j 0 < get_or a i 0
      → xor_merge (drop i a) (drop j b) ≡ get_or b j 0 ∷ xor_merge (drop i a) (drop (j + 1) b)
  at-gt p q h = rw (add-one, drop-cons a i 0 p, drop-cons b j 0 q) (merge-gt _ _ _ _ h)

  pub at-eq : i < length a → j < length b → get_or a i 0 ≡ get_or b j 0
      → xor_merge (drop i a) (drop j b) ≡ xor_merge (drop (i + 1) a) (drop (j + 1) b)
  at-eq p q h = rw (add-one, add-one, drop-cons a i 0 p, drop-cons b j 0 q) (merge-eq _ _ _ _ h)

  pub at_left : i < length a → length b ≤ j → xor_merge (drop i a) (drop j b) ≡ get_or a i 0 ∷ xor_merge (drop (i + 1) a) (drop j b)
  at_left p q = rw (add-one, drop_of_length-le b {i = j} q, merge-nil, merge-nil, drop-cons a i 0 p)

  pub at_right : length a ≤ i → j < length b → xor_merge (drop i a) (drop j b) ≡ get_or b j 0 ∷ xor_merge (drop i a) (drop (j + 1) b)
  at_right p q = rw (add-one, drop_of_length-le a {i = i} p, nil-merge, nil-merge, drop-cons b j 0 q)

  pub at-end : length a ≤ i → length b ≤ j → xor_merge (drop i a) (drop j b) ≡ []
  at-end p q = rw (drop_of_length-le a {i = i} p, drop_of_length-le b {i = j} q, nil-merge)

  -- one of the two is used up: the rest of the other follows as it is
  pub at_rest : (length a ≤ i) ⊎ (length b ≤ j) → xor_merge (drop i a) (drop j b) ≡ drop i a ++ drop j b
  at_rest o = ⊎_elim
      (λ p. rw (drop_of_length-le a {i = i} p, nil-merge))
      (λ q. rw (drop_of_length-le b {i = j} q, merge-nil, append-nil))
      o

-- ---- where a list goes on with y
module _ (r : List ℕ) (n y : ℕ) (z : List ℕ) (e : drop n r ≡ y ∷ z) where
  pub rest_more : n < length r
  rest_more = omega (arith, simp length-drop at (ap length e))

  rest-split : get_or r n 0 ∷ drop (suc n) r ≡ y ∷ z
  rest-split = sym (drop-cons r n 0 rest_more) ∙ e

  pub rest-head : get_or r n 0 ≡ y
  rest-head = let f = rest-split in cc

  pub rest-tail : drop (n + 1) r ≡ z
  rest-tail = rw add-one (let f = rest-split in cc)

-- ---- a step that moves by the outcome of tests
pub byte_le : (b : Bool) → bool_byte b ≤ 1
byte_le true = omega arith
byte_le false = omega arith

-- by the order of two numbers, with the outcome of the three tests
pub by_tests {ℓ} : (x y : ℕ) (P : ℕ → ℕ → ℕ → Type ℓ)
    → (x < y → P 1 1 0) → (x ≡ y → P 0 1 1) → (y < x → P 1 0 1)
    → P (bool_byte (not (eqb x y))) (bool_byte (leb x y)) (bool_byte (leb y x))
by_tests x y P f g h = by_order x y
    (λ o. rw (ne_eqb x y (λ q. omega arith), le-leb x y (omega arith), lt-leb y x o) (f o))
    (λ o. rw (eq-eqb x y o, le-leb x y (omega arith), le-leb y x (omega arith)) (g o))
    (λ o. rw (ne_eqb x y (λ q. omega arith), lt-leb x y o, le-leb y x (omega arith)) (h o))

pub step_fits : (a m : ℕ) (b : Bool) → a < m → m < 18446744073709551616 → Fits w64 (a + bool_byte b)
step_fits a m b h l = record { fits = omega (arith, byte_le b) }

pub step_falls : (dl sl i j x y : ℕ) → i < dl → j < sl
    → (dl - (i + bool_byte (leb x y))) + (sl - (j + bool_byte (leb y x))) < (dl - i) + (sl - j)
step_falls dl sl i j x y p q = by_tests x y (λ u v w. (dl - (i + v)) + (sl - (j + w)) < (dl - i) + (sl - j)) (λ h. omega arith) (λ h. omega arith) (λ h. omega arith)

-- no more numbers are found than are read
pub step-least : (x y : ℕ) → bool_byte (not (eqb x y)) ≤ bool_byte (leb x y) + bool_byte (leb y x)
step-least x y = by_tests x y (λ u v w. u ≤ v + w) (λ h. omega arith) (λ h. omega arith) (λ h. omega arith)

-- a step finds u numbers of the sum, and goes on by v and w
pub step_count : (a b : List ℕ) (i j : ℕ) → i < length a → j < length b
    → length (xor_merge (drop i a) (drop j b))
    ≡ bool_byte (not (eqb (get_or a i 0) (get_or b j 0)))
    + length (xor_merge (drop (i + bool_byte (leb (get_or a i 0) (get_or b j 0))) a) (drop (j + bool_byte (leb (get_or b j 0) (get_or a i 0))) b))
step_count a b i j p q =
    let i0 : i + 0 ≡ i = omega arith in
    let j0 : j + 0 ≡ j = omega arith in
    by_tests (get_or a i 0) (get_or b j 0) (λ u v w. length (xor_merge (drop i a) (drop j b)) ≡ u + length (xor_merge (drop (i + v) a) (drop (j + w) b)))
    (λ h. rw j0 (omega (arith, ap length (at_lt a b i j p q h))))
    (λ h. omega (arith, ap length (at-eq a b i j p q h)))
    (λ h. rw i0 (omega (arith, ap length (at-gt a b i j p q h))))

-- ---- the numbers of the sum, counted: n of them, and the rest is the sum from i and j on
pub record Counted (a b : List ℕ) (i j n : ℕ) : Type 0 where
  pub i-le : i ≤ length a
  pub j-le : j ≤ length b
  pub n-le : n ≤ i + j
  pub is : n + length (xor_merge (drop i a) (drop j b)) ≡ length (xor_merge a b)

pub counted_start : (a b : List ℕ) → Counted a b 0 0 0
counted_start a b = record { i-le = omega arith; j-le = omega arith; n-le = omega arith; is = omega arith }

module _ (a b : List ℕ) (i j n : ℕ) (C : Counted a b i j n) where
  pub counted-more : i < length a → j < length b
      → Counted a b (i + bool_byte (leb (get_or a i 0) (get_or b j 0))) (j + bool_byte (leb (get_or b j 0) (get_or a i 0)))
      (n + bool_byte (not (eqb (get_or a i 0) (get_or b j 0))))
  counted-more p q =
      let x : ℕ = get_or a i 0 in
      let y : ℕ = get_or b j 0 in
      record {
        i-le = omega (arith, byte_le (leb x y));
        j-le = omega (arith, byte_le (leb y x));
        n-le = omega (arith, C.n-le, step-least x y);
        is = omega (arith, C.is, step_count a b i j p q);
      }

  pub counted-done : (length a ≤ i) ⊎ (length b ≤ j) → n + (length a - i) + (length b - j) ≡ length (xor_merge a b)
  counted-done o =
      omega (arith, C.is, C.i-le, C.j-le, ap length (at_rest a b i j o), length-append (drop i a) (drop j b), length-drop i a, length-drop j b)
