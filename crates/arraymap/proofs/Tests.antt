-- The loops of the check: what each turn finds of its test. Assumes nothing.
use mathlib.Core.Path.{◌≡◌, refl, sym, ap, ap₂, ◌∙◌}
use mathlib.Core.Bool.{Bool, true, false, not, ◌&&◌, ◌||◌}
use mathlib.Core.List.{List, [], ◌∷◌}
use Prim.Native.Nat.{ℕ, zero, suc, ◌+◌, ◌-◌, ◌≤◌, ◌<◌}
use native.Mathlib.Numerals.{add-one}
use native.Mathlib.Omega.{arith}
use native.Mathlib.Nat.{zero-add}
use Rattle.std.specs.Prelude.{Some, MatchBool}
use Rattle.std.specs.List.{list_all, range_with_len, IsAllAdjacentAnswer}
use Rattle.std.specs.List.Sorted.{IsNonDecreasing}
use Rattle.std.specs.Ordering.{is_some_and, is_le, nat_cmp}
use Rattle.std.proofs.lemmas.List.Folds.{list_all_more}
use Rattle.std.proofs.lemmas.List.FromFn.{length-range_with_len, get_or-range_with_len}
use Rattle.std.proofs.lemmas.List.Sorted.{non_decreasing_from_is_sorted}
use lib.Dec.{leb, ltb, eqb}
use lib.ListN.{length, get_or, take, drop, drop_of_length-le}
use lib.Seq.{drop-cons, take_all, get_or-take, length-take-le}
use borrow.Author.Tests.{eq-eqb, ne_eqb, lt-ltb, le-ltb, le-leb, lt-leb}
use Rattle.laws.specs.Rows.{member, Rising}
use Rattle.laws.specs.Tests.{all_below}
use Rattle.laws.proofs.Bools.{and-stop, and_last, or-late}
use Rattle.laws.proofs.Members.{member-at}
use Rattle.laws.proofs.Passes.{all_of, all-fails}
use Rattle.arraymap.specs.Index.{list_at, RowOk}
use Rattle.arraymap.specs.Show.{CanList}
use Rattle.arraymap.specs.Check.{up_at, mark_at, ok_from, list_ok, listed_at, row_listed, holds_at, exact_at}
use Rattle.arraymap.specs.Steps.{Span, Lists, Below}

-- ---- `all` of a chain as a test over a range
pub all-taken : (p : ℕ → Bool) (l : List ℕ) (q : ℕ → Bool) (n : ℕ) → n ≤ length l → ((i : ℕ) → i < n → p (get_or l i 0) ≡ q i) → list_all p (take n l) ≡ all_below n q
unfolding all_below
all-taken p [] q zero h f = refl
all-taken p (x ∷ l) q zero h f = refl
all-taken p l q (suc n) h f =
    ap (λ (k : ℕ). list_all p (take k l)) (sym (add-one n)) ∙ list_all_more p l n 0 (omega arith)
    ∙ ap₂ ◌&&◌ (all-taken p l q n (omega arith) (λ i k. f i (omega arith))) (f n (omega arith))

pub all-numbers : (q : ℕ → Bool) (n : ℕ) → list_all q (range_with_len 0 n) ≡ all_below n q
all-numbers q n =
    let e = length-range_with_len 0 n in
    ap (list_all q) (sym (take_all n (range_with_len 0 n) (omega arith)))
    ∙ all-taken q (range_with_len 0 n) q n (omega arith) (λ i k. ap q (get_or-range_with_len 0 n i 0 k ∙ zero-add i))

-- ---- the starts rise
pub starts-up : (S : List ℕ) (m : ℕ) (r : Bool) → m < length S → IsAllAdjacentAnswer (λ x y b. is_some_and is_le (Some (nat_cmp x y)) ≡ b) (take (m + 1) S) r → r ≡ all_below m (up_at S)
unfolding up_at
starts-up S m r w a = go r (non_decreasing_from_is_sorted (take (m + 1) S) r a)
  where
    go : (b : Bool) → MatchBool b (IsNonDecreasing (take (m + 1) S)) ((k : ℕ) × (k + 1 < length (take (m + 1) S)) × ((d : ℕ) → get_or (take (m + 1) S) (k + 1) d < get_or (take (m + 1) S) k d))
        → b ≡ all_below m (up_at S)
    go true f = sym (all_of (up_at S) m (λ z l.
        let u = f z (z + 1) 0 (omega arith) (omega (arith, length-take-le (m + 1) S (omega arith))) in
        le-leb (get_or S z 0) (get_or S (suc z) 0) (rw (get_or-take (m + 1) S z 0 (omega arith), get_or-take (m + 1) S (z + 1) 0 (omega arith), add-one) at u)))
    go false (k, l, f) =
        let g : k < m = omega (arith, length-take-le (m + 1) S (omega arith)) in
        sym (all-fails (up_at S) m k g (lt-leb (get_or S k 0) (get_or S (suc k) 0)
        (rw (get_or-take (m + 1) S k 0 (omega arith), get_or-take (m + 1) S (k + 1) 0 (omega arith), add-one) at (f 0))))

-- ---- the marks
pub marks_ok : (marks : List ℕ) (m : ℕ) (r : Bool) → m ≤ length marks → r ≡ list_all (λ x. leb x 1) (take m marks) → r ≡ all_below m (mark_at marks)
unfolding mark_at
marks_ok marks m r h e = e ∙ all-taken (λ x. leb x 1) marks (mark_at marks) m h (λ i k. refl)

pub mark-yes : (marks : List ℕ) (z : ℕ) → get_or marks z 0 ≤ 1 → mark_at marks z ≡ true
unfolding mark_at
mark-yes marks z h = le-leb (get_or marks z 0) 1 h

-- ---- list_ok: what is left of the list is to rise from lo
pub record Rises (l : List ℕ) (h lo j : ℕ) : Type 0 where
  pub j-le : j ≤ length l
  pub is : ok_from 0 h l ≡ ok_from lo h (drop j l)

pub rises-start : (l : List ℕ) (h : ℕ) → Rises l h 0 0
rises-start l h = record { j-le = omega arith; is = ap (ok_from 0 h) (whole l) }
  where
    whole : (q : List ℕ) → q ≡ drop 0 q
    whole [] = refl
    whole (u ∷ q) = refl

module _ (l : List ℕ) (h lo j : ℕ) (c : Rises l h lo j) (g : j < length l) (y : ℕ) (e : y ≡ get_or l j 0) where
  rises-at : ok_from 0 h l ≡ leb lo y && (ltb y h && ok_from (suc y) h (drop (suc j) l))
  unfolding ok_from
  rises-at = c.is ∙ rw (drop-cons l j 0 g, e)

  pub rises-low : y < lo → false ≡ ok_from 0 h l
  rises-low q = sym (rises-at ∙ and-stop (leb lo y) (ltb y h && ok_from (suc y) h (drop (suc j) l)) (lt-leb lo y q))

  pub rises-high : h ≤ y → false ≡ ok_from 0 h l
  rises-high q = sym (rises-at ∙ and_last (leb lo y) (ltb y h && ok_from (suc y) h (drop (suc j) l))
      (and-stop (ltb y h) (ok_from (suc y) h (drop (suc j) l)) (le-ltb y h q)))

  pub rises-more : lo ≤ y → y < h → Rises l h (y + 1) (j + 1)
  rises-more q k = record { j-le = omega arith; is = rw (add-one y, add-one j) (rises-at ∙ rw (le-leb lo y q, lt-ltb y h k)) }

pub rises-done : (l : List ℕ) (h lo j : ℕ) → Rises l h lo j → length l ≤ j → true ≡ ok_from 0 h l
unfolding ok_from
rises-done l h lo j c g = sym (c.is ∙ rw (drop_of_length-le l {i = j} g))

-- ---- the list of a column
module _ (S E : List ℕ) (m : ℕ) (s : Span S E m) where
  span-le : (d z : ℕ) → z + d ≤ m → get_or S z 0 ≤ get_or S (z + d) 0
  span-le zero z h = let e : z + 0 ≡ z = omega arith in rw e (omega arith)
  span-le (suc d) z h = let e : z + suc d ≡ suc (z + d) = omega arith in rw e (omega (arith, span-le d z (omega arith), s.up (z + d) (omega arith)))

  pub span-list : (z : ℕ) → z < m → CanList S E z
  span-list z h = record {
    wide = omega (arith, s.wide);
    up = s.up z h;
    room = let q : suc z + (m - suc z) ≡ m = omega arith in omega (arith, s.end, rw q at (span-le (m - suc z) (suc z) (omega arith)));
  }

-- ---- lists_ok: the list that was handed out is the column's
pub ok-is : (S E : List ℕ) (h z : ℕ) (l : List ℕ) (r b : Bool) → l ≡ list_at S E z → r ≡ ok_from 0 h l → r ≡ b → list_ok S E h z ≡ b
unfolding list_ok
ok-is S E h z l r b e q t = rw e at (sym q ∙ t)

-- ---- row_listed
module _ (row : List ℕ) (m j z : ℕ) (r : RowOk row m) (h : j < length row) (e : z ≡ get_or row j 0) where
  pub column-in : z < m
  column-in = rw e (r.inside (get_or row j 0) (member-at row j h))

module _ (S E : List ℕ) (z : ℕ) (l : List ℕ) (q : l ≡ list_at S E z) where
  pub list-rising : (m h : ℕ) → Lists S E m h → z < m → Rising l
  list-rising m h s g = record { rises = rw q (s.list z g) }

  pub list-below : (m h : ℕ) → Lists S E m h → z < m → Below l h
  list-below m h s g = record { low = λ y t. s.below z y g (rw q at t) }

  pub listed-is : (row : List ℕ) (y j : ℕ) (r b : Bool) → z ≡ get_or row j 0 → r ≡ member y l → r ≡ b → listed_at S E row y j ≡ b
  unfolding listed_at
  listed-is row y j r b e s t = rw (q, e) at (sym s ∙ t)

-- ---- row_listed, list_exact: the row and the list that were handed out are those
pub row-listed-is : (S E : List ℕ) (rows : ℕ → List ℕ) (y : ℕ) (row : List ℕ) (r : Bool) → row ≡ rows y
    → r ≡ all_below (length row) (listed_at S E row y) → r ≡ row_listed S E rows y
unfolding row_listed
row-listed-is S E rows y row r q s = rw q at s

module _ (l : List ℕ) (j y : ℕ) (e : y ≡ get_or l j 0) where
  pub below_at : (h : ℕ) → Below l h → j < length l → y < h
  below_at h b g = rw e (b.low (get_or l j 0) (member-at l j g))

  pub holds-is : (rows : ℕ → List ℕ) (z : ℕ) (row : List ℕ) (r b : Bool) → row ≡ rows y → r ≡ member z row → r ≡ b → holds_at rows z l j ≡ b
  unfolding holds_at
  holds-is rows z row r b q s t = rw (q, e) at (sym s ∙ t)

-- the list that was handed out is the column's
pub exact-is : (rows : ℕ → List ℕ) (z : ℕ) (l k : List ℕ) → l ≡ k → (r : Bool) → r ≡ all_below (length l) (holds_at rows z l) → r ≡ all_below (length k) (holds_at rows z k)
exact-is rows z l k q r s = rw q at s

-- ---- exact_ok
module _ (rows : ℕ → List ℕ) (S E logical marks : List ℕ) (edge z : ℕ) where
  pub exact-frozen : edge ≤ get_or logical z 0 → exact_at rows S E logical marks edge z ≡ true
  unfolding exact_at
  exact-frozen h = rw (le-ltb (get_or logical z 0) edge h)

  pub exact-spent : (get_or marks z 0 ≡ 0 → ⊥) → exact_at rows S E logical marks edge z ≡ true
  unfolding exact_at
  exact-spent h = rw (ne_eqb (get_or marks z 0) 0 h) (spent (ltb (get_or logical z 0) edge) (all_below (length (list_at S E z)) (holds_at rows z (list_at S E z))))
    where
      spent : (a b : Bool) → not (a && false) || b ≡ true
      spent true b = refl
      spent false b = refl

  pub exact-yes : all_below (length (list_at S E z)) (holds_at rows z (list_at S E z)) ≡ true → exact_at rows S E logical marks edge z ≡ true
  unfolding exact_at
  exact-yes t = or-late (not (ltb (get_or logical z 0) edge && eqb (get_or marks z 0) 0)) (all_below (length (list_at S E z)) (holds_at rows z (list_at S E z))) t

  pub exact-no : get_or logical z 0 < edge → get_or marks z 0 ≡ 0 → all_below (length (list_at S E z)) (holds_at rows z (list_at S E z)) ≡ false
      → exact_at rows S E logical marks edge z ≡ false
  unfolding exact_at
  exact-no h u t = rw (lt-ltb (get_or logical z 0) edge h, eq-eqb (get_or marks z 0) 0 u) t
