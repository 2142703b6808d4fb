-- Two home rows and their sum over bits, as the inner functions of ADD find them. Assumes nothing.
use mathlib.Core.Path.{◌≡◌, refl, sym, ap, ◌∙◌}
use mathlib.Core.Bool.{Bool, true, false, not, ◌&&◌}
use mathlib.Core.List.{List, [], ◌∷◌}
use Prim.Native.Nat.{ℕ, ◌+◌, ◌*◌, ◌≤◌, ◌<◌}
use native.Mathlib.Omega.{arith}
use lib.Dec.{leb, eqb}
use lib.ListN.{length, get_or, set}
use borrow.Author.Tests.{le-leb, eq-eqb, ne_eqb}
use Rattle.laws.specs.Plain.{pick}
use Rattle.laws.specs.Rows.{member, Rising}
use Rattle.laws.specs.Parts.{part, row_of}
use Rattle.laws.proofs.Parts.{part_length, part_at}
use Rattle.sparse_vec.specs.Row.{CanAdd, row_sum, sum_in, added_to, put_row}
use Rattle.std.specs.Prelude.{Option, Some, None}
use Rattle.table.specs.Step.{not_single}
use Rattle.cells.specs.Added.{CanSum, CanAddLists, CanSpend, sum_of_rows, not_one, sum_refused}

-- ---- the start
pub aside-zero : (start edge : ℕ) → start ≡ 0 → false ≡ not (eqb start 0) && not (eqb start edge)
aside-zero start edge e = rw (eq-eqb start 0 e)

pub aside-other : (start edge : ℕ) → (start ≡ 0 → ⊥) → not (eqb start edge) ≡ not (eqb start 0) && not (eqb start edge)
aside-other start edge n = rw (ne_eqb start 0 n)

-- ---- a list of one number
many : (l : List ℕ) (p : ℕ → Bool) → (length l ≡ 1 → ⊥) → not_single l p ≡ true
many [] p h = refl
many (c ∷ []) p h = absurd (h refl)
many (c ∷ d ∷ l) p h = refl

only : (l : List ℕ) → length l ≡ 1 → l ≡ get_or l 0 0 ∷ []
only [] h = absurd (omega arith)
only (c ∷ []) h = refl
only (c ∷ d ∷ l) h = absurd (omega arith)

-- the first number of a row of one
pub row_first : (slots counts : List ℕ) (k x : ℕ) → 0 < get_or counts x 0 → get_or (row_of slots counts k x) 0 0 ≡ get_or slots (x * k) 0
unfolding row_of
row_first slots counts k x h =
    let here : x * k + 0 ≡ x * k = omega arith in
    part_at slots (x * k) (get_or counts x 0) 0 h ∙ ap (λ (i : ℕ). get_or slots i 0) here

-- ---- the mark
module _ (slots marks : List ℕ) (all on : Bool) (k x : ℕ) (can : CanSpend slots marks all on k x) where
  pub no_rows : all ≡ false → marks ≡ pick all (pick on (set marks (get_or slots (x * k) 0) 1) marks) marks
  no_rows e = rw e

  pub no-marks : all ≡ true → on ≡ false → marks ≡ pick all (pick on (set marks (get_or slots (x * k) 0) 1) marks) marks
  no-marks a e = rw (a, e)

  pub marked : all ≡ true → on ≡ true → (z : ℕ) → z ≡ get_or slots (x * k) 0 → set marks z 1 ≡ pick all (pick on (set marks (get_or slots (x * k) 0) 1) marks) marks
  marked a o z e = rw (a, o, e)

module _ (slots counts : List ℕ) (k y x : ℕ) (can : CanSum slots counts k y x) where
  source-length : length (row_of slots counts k x) ≡ get_or counts x 0
  unfolding row_of
  source-length = part_length slots (x * k) (get_or counts x 0) (omega (arith, can.rows.source.fits, can.rows.source.room))

  -- ---- SINGLE
  pub no_index : (on : Bool) → on ≡ false → false ≡ not_one on slots counts k y x
  unfolding not_one
  no_index on e = rw e

  module _ (on : Bool) (o : on ≡ true) (n : ℕ) (n-is : n ≡ get_or counts x 0) where
    pub not-single : (n ≡ 1 → ⊥) → true ≡ not_one on slots counts k y x
    unfolding not_one
    not-single h = rw (o, many (row_of slots counts k x) (λ z. member z (row_of slots counts k y)) (λ l. h (n-is ∙ sym source-length ∙ l)))

    pub asked : n ≡ 1 → (m : ℕ) → m ≡ get_or counts y 0 → (r : Bool) → r ≡ member (get_or slots (x * k) 0) (part slots (y * k) m)
        → not r ≡ not_one on slots counts k y x
    unfolding not_one row_of
    asked one m m-is r e =
        let alone : row_of slots counts k x ≡ get_or slots (x * k) 0 ∷ [] = only (row_of slots counts k x) (source-length ∙ sym n-is ∙ one) ∙ ap (λ (z : ℕ). z ∷ []) (row_first slots counts k x (omega arith)) in
        ap not e ∙ rw (o, alone, m-is)

  pub rises : (m : ℕ) → m ≡ get_or counts y 0 → Rising (part slots (y * k) m)
  rises m e = rw e can.rows.row.rising

  -- ---- the counts of the two rows, as they are read
  module _ (n m : ℕ) (n-is : n ≡ get_or counts y 0) (m-is : m ≡ get_or counts x 0) where
    pub can-add : CanAdd slots (y * k) n (x * k) m k
    can-add = rw (n-is, m-is) can.rows

    sum_is : row_sum slots (y * k) n (x * k) m ≡ sum_of_rows slots counts k y x
    unfolding row_sum sum_of_rows row_of
    sum_is = rw (n-is, m-is)

    -- SLOTS
    module _ (on r : Bool) (r-is : r ≡ not_one on slots counts k y x) (single : r ≡ false) (t : Bool) (t-is : t ≡ leb (length (row_sum slots (y * k) n (x * k) m)) k) where
      fits-is : leb (length (sum_of_rows slots counts k y x)) k ≡ t
      fits-is = ap (λ (l : List ℕ). leb (length l) k) (sym sum_is) ∙ sym t-is

      pub sum_fits : t ≡ true → 0 ≡ sum_refused on slots counts k y x
      unfolding sum_refused
      sum_fits e = rw (sym r-is ∙ single, fits-is ∙ e)

      pub sum-full : t ≡ false → 12 ≡ sum_refused on slots counts k y x
      unfolding sum_refused
      sum-full e = rw (sym r-is ∙ single, fits-is ∙ e)

    -- ---- the rows added
    module _ (all : Bool) (a : all ≡ true) (room : all ≡ true → length (sum_of_rows slots counts k y x) ≤ k) (r : Option ℕ) (r-is : r ≡ sum_in k (row_sum slots (y * k) n (x * k) m)) where
      fits : leb (length (row_sum slots (y * k) n (x * k) m)) k ≡ true
      fits = rw sum_is (le-leb (length (sum_of_rows slots counts k y x)) k (room a))

      is-done : r ≡ Some (length (sum_of_rows slots counts k y x))
      unfolding sum_in
      is-done = r-is ∙ rw (fits, sum_is)

      pub never-full : r ≡ None → ⊥
      never-full e = let z : ◌≡◌ {A = ℕ} 0 1 = cc (is-done) in omega arith

      pub new-count : (len : ℕ) → r ≡ Some len → len ≡ length (sum_of_rows slots counts k y x)
      new-count len e = cc (is-done)

      pub new-slots : (S : List ℕ) → S ≡ added_to slots (y * k) k (row_sum slots (y * k) n (x * k) m)
          → S ≡ pick all (put_row slots (y * k) k (sum_of_rows slots counts k y x)) slots
      unfolding added_to
      new-slots S e = e ∙ rw (fits, sum_is, a)

      pub lists-done : (len : ℕ) → r ≡ Some len → (S : List ℕ) → S ≡ added_to slots (y * k) k (row_sum slots (y * k) n (x * k) m)
          → (S ≡ pick all (put_row slots (y * k) k (sum_of_rows slots counts k y x)) slots)
          × (set counts y len ≡ pick all (set counts y (length (sum_of_rows slots counts k y x))) counts)
      lists-done len e S f = (new-slots S f, rw (a, new-count len e))

pub refuses-one : (slots counts : List ℕ) (k y x : ℕ) (on r : Bool) → r ≡ not_one on slots counts k y x → r ≡ true → 10 ≡ sum_refused on slots counts k y x
unfolding sum_refused
refuses-one slots counts k y x on r e t = rw (sym e ∙ t)

pub lists-kept : (slots counts : List ℕ) (all : Bool) (k y x : ℕ) → CanAddLists slots counts all k y x → all ≡ false
    → (slots ≡ pick all (put_row slots (y * k) k (sum_of_rows slots counts k y x)) slots)
    × (counts ≡ pick all (set counts y (length (sum_of_rows slots counts k y x))) counts)
lists-kept slots counts all k y x can e = (rw e, rw e)
