-- The ways of an addition, each brought to the one answer. Assumes nothing.
use mathlib.Core.Path.{◌≡◌, sym, ap, ◌∙◌}
use mathlib.Core.Logic.{inl, inr, ⊎_elim}
use mathlib.Core.Bool.{true}
use mathlib.Core.List.{List, [], ◌∷◌, ◌++◌}
use Prim.Native.Nat.{ℕ, ◌+◌, ◌-◌, ◌≤◌, ◌<◌}
use native.Mathlib.Omega.{arith}
use lib.Dec.{leb}
use lib.ListN.{length, get_or}
use lib.Seq.{drop-cons}
use borrow.Author.Tests.{le-leb}
use Rattle.laws.specs.Rows.{xor_merge}
use Rattle.laws.specs.Parts.{part, put_at, pad_to, zeros}
use Rattle.laws.proofs.Merge.{merge-length}
use Rattle.laws.proofs.Parts.{zeros-length, pad-length, part_length}
use Rattle.sparse_vec.specs.Row.{put_row, CanAdd, row_sum, sum_in, added_to}
use Rattle.sparse_vec.specs.Passes.{CanMerge, CanLay, Halfway, Half, Settled}
use Rattle.std.specs.Prelude.{Option, Some, None}
use Rattle.sparse_vec.proofs.Places.{put-outside, put-join, row-wider}
use Rattle.sparse_vec.proofs.Answers.{sum_done, sum-full}

-- the sum of the two rows, counted in what stands at their places
pub sum-counted : (S : List ℕ) (d dl s sl : ℕ) (a b : List ℕ) → a ≡ part S d dl → b ≡ part S s sl → (n : ℕ) → n ≡ length (xor_merge a b)
    → n ≡ length (row_sum S d dl s sl)
unfolding row_sum
sum-counted S d dl s sl a b p q n e = e ∙ rw (p, q)

-- a row put into two runs that differ within the stretch only
outside : (S T : List ℕ) (d cap : ℕ) (r : List ℕ) → d + cap ≤ length S → length r ≤ cap → length T ≡ length S
    → ((m : ℕ) → m < d → get_or T m 0 ≡ get_or S m 0) → ((m : ℕ) → d + cap ≤ m → get_or T m 0 ≡ get_or S m 0)
    → put_at T d (r ++ zeros (cap - length r)) ≡ put_row S d cap r
unfolding put_row pad_to
outside S T d cap r f h e low high =
    let l : length (r ++ zeros (cap - length r)) ≡ cap = pad-length cap r h in
    put-outside S T d (r ++ zeros (cap - length r)) (omega arith) e low (λ m g. high m (omega arith))

module _ (S : List ℕ) (d dl s sl cap : ℕ) (C : CanAdd S d dl s sl cap) where
  sum-most : length (row_sum S d dl s sl) ≤ dl + sl
  unfolding row_sum
  sum-most =
      let a : length (part S d dl) ≡ dl = part_length S d dl (omega (arith, C.row.fits, C.row.room)) in
      let b : length (part S s sl) ≡ sl = part_length S s sl (omega (arith, C.source.fits, C.source.room)) in
      omega (arith, merge-length (part S d dl) (part S s sl))

  -- ---- does the sum have room
  pub fits-at-once : sl ≤ cap - dl → true ≡ leb (length (row_sum S d dl s sl)) cap
  fits-at-once h = sym (le-leb (length (row_sum S d dl s sl)) cap (omega (arith, sum-most, C.row.room)))

  -- ---- a row of one number
  pub one-done : (W : List ℕ) (r : Option ℕ) → sl ≡ 1
      → (r ≡ sum_in cap (xor_merge (part S d dl) (get_or S s 0 ∷ []))) × (W ≡ added_to S d cap (xor_merge (part S d dl) (get_or S s 0 ∷ [])))
      → (r ≡ sum_in cap (row_sum S d dl s sl)) × (W ≡ added_to S d cap (row_sum S d dl s sl))
  unfolding row_sum part
  one-done W r e f =
      let one : part S s sl ≡ get_or S s 0 ∷ [] = rw (e, drop-cons S s 0 (omega (arith, C.source.fits, C.source.room))) in
      rw one f

  -- ---- both rows together have room
  pub can-merge : sl ≤ cap - dl → CanMerge S d dl s sl
  can-merge h = record {
    fit-d = omega (arith, C.row.fits, C.row.room);
    fit-s = omega (arith, C.source.fits, C.source.room);
    apart = ⊎_elim (λ o. inl (omega (arith, C.row.room))) (λ o. inr (omega (arith, C.source.room))) C.apart;
  }

  pub roomy-done : (W : List ℕ) (n : ℕ) → sl ≤ cap - dl → (n ≡ length (row_sum S d dl s sl)) × (W ≡ put_row S d (dl + sl) (row_sum S d dl s sl))
      → (Some n ≡ sum_in cap (row_sum S d dl s sl)) × (W ≡ added_to S d cap (row_sum S d dl s sl))
  roomy-done W n h f =
      let room : dl + sl ≤ cap = omega (arith, C.row.room) in
      sum_done S W d cap (row_sum S d dl s sl) n f.0 (omega (arith, sum-most))
      (f.1 ∙ row-wider S d dl (dl + sl) cap (row_sum S d dl s sl) C.row (omega arith) room sum-most)

  -- ---- only the sum has room
  module _ (n : ℕ) (e : n ≡ length (row_sum S d dl s sl)) where
    pub tight-full : cap < n → (None ≡ sum_in cap (row_sum S d dl s sl)) × (S ≡ added_to S d cap (row_sum S d dl s sl))
    tight-full h = sum-full S d cap (row_sum S d dl s sl) (omega arith)

    pub can-lay : n ≤ cap → CanLay S d dl s sl n
    unfolding row_sum
    can-lay h = record {
      fit-d = omega (arith, C.row.fits, C.row.room);
      fit_n = omega (arith, C.row.fits);
      fit-s = omega (arith, C.source.fits, C.source.room);
      apart = ⊎_elim (λ o. inl (omega arith)) (λ o. inr (omega (arith, C.source.room))) C.apart;
      rise-d = C.row.rising;
      rise-s = C.source.rising;
      n-is = e;
    }

    module _ (T W : List ℕ) (h : n ≤ cap) (G : Halfway S T d dl s sl n) (F : Settled T W d dl s sl n) where
      w-is : W ≡ put_at T d (row_sum S d dl s sl)
      unfolding row_sum
      w-is = F.sum S G

      high : (m : ℕ) → d + cap ≤ m → get_or T m 0 ≡ get_or S m 0
      unfolding row_sum
      high m g = let z : d + (m - d) ≡ m = omega arith in rw z at (G.laid.old-top (m - d) (omega arith))

      pub tight-done : (R : List ℕ) → R ≡ put_at W (d + n) (zeros (d + cap - (d + n)))
          → (Some n ≡ sum_in cap (row_sum S d dl s sl)) × (R ≡ added_to S d cap (row_sum S d dl s sl))
      tight-done R r = sum_done S R d cap (row_sum S d dl s sl) n e (omega arith) whole
        where
          z : d + cap - (d + n) ≡ cap - length (row_sum S d dl s sl)
          z = omega arith

          zl : length (zeros (cap - length (row_sum S d dl s sl))) ≡ cap - length (row_sum S d dl s sl)
          zl = zeros-length (cap - length (row_sum S d dl s sl))

          whole : R ≡ put_row S d cap (row_sum S d dl s sl)
          whole =
              r ∙ ap (λ (k : ℕ). put_at W (d + n) (zeros k)) z
              ∙ ap (λ (l : List ℕ). put_at l (d + n) (zeros (cap - length (row_sum S d dl s sl)))) w-is
              ∙ put-join T d (row_sum S d dl s sl) (zeros (cap - length (row_sum S d dl s sl))) (d + n) (omega arith) (omega (arith, zl, G.laid.same, C.row.fits))
              ∙ outside S T d cap (row_sum S d dl s sl) C.row.fits (omega arith) G.laid.same G.laid.old_below high

pub half_of : (S T : List ℕ) (d dl s sl n : ℕ) → Halfway S T d dl s sl n → Half T d dl s sl n
half_of S T d dl s sl n G = record { orig = S; half = G }
