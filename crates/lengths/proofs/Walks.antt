-- A row read through the map, measured number by number. Assumes nothing.
use mathlib.Core.Path.{◌≡◌, refl, sym}
use mathlib.Core.Bool.{◌&&◌}
use mathlib.Core.List.{List, [], ◌++◌}
use Prim.Native.Nat.{ℕ, suc, ◌+◌, ◌≤◌, ◌<◌}
use native.Mathlib.Numerals.{add-one}
use native.Mathlib.Omega.{arith}
use lib.Dec.{leb, ltb}
use lib.ListN.{length, get_or, drop}
use lib.Seq.{drop-cons}
use Rattle.table.specs.Run.{ok}
use Rattle.laws.proofs.Select.{keep_append}
use Rattle.lines.specs.Line.{line_long}
use Rattle.sparse_vec.specs.Row.{walked}
use Rattle.sparse_vec.proofs.Walking.{walk_end, walked-length}
use Rattle.lengths.specs.Length.{within, Takes}
use Rattle.lengths.proofs.Measured.{Measured, measured-start, measured-more, measured-line}

-- the numbers from place i on: the i-th, where it is one of a to b-1, and those after it
walked_next : (row logical : List ℕ) (a b i : ℕ) → i < length row
    → walked logical a b (drop i row) ≡ within a b (get_or logical (get_or row i 0) 0) ++ walked logical a b (drop (i + 1) row)
unfolding walked
walked_next row logical a b i h =
    let c = get_or logical (get_or row i 0) 0 in
    rw (add-one, drop-cons row i 0 h) (sym (keep_append (leb a c && ltb c b) c [] (walked logical a b (drop (suc i) row))))

-- the first i numbers of the row are measured
pub record RowSoFar (row logical : List ℕ) (a b long i : ℕ) : Type 0 where
  pub not-past : i ≤ length row
  pub so_far : Measured 3 (walked logical a b row) long (walked logical a b (drop i row))

pub row-start : (row logical : List ℕ) (a b : ℕ) → RowSoFar row logical a b 3 0
row-start row logical a b = record { not-past = omega arith; so_far = measured-start 3 (walked logical a b row) (walked logical a b row) refl }

module _ (row logical : List ℕ) (a b long i : ℕ) (v : RowSoFar row logical a b long i) where
  pub row_more : (k : ℕ) → i < length row → Takes (within a b (get_or logical (get_or row i 0) 0)) k → RowSoFar row logical a b (long + k) (i + 1)
  row_more k h t = record {
    not-past = omega arith;
    so_far = measured-more 3 _ long _ (within a b (get_or logical (get_or row i 0) 0)) (walked logical a b (drop (i + 1) row)) k v.so_far (walked_next row logical a b i h) t;
  }

  pub row-short : length row ≤ 65536 → long ≤ 1376259
  row-short h = omega (arith, v.so_far.small, walked-length row logical a b)

  pub row_done : length row ≤ i → long ≡ line_long (ok (walked logical a b row))
  row_done h = measured-line (walked logical a b row) long _ (walk_end row logical a b i h) v.so_far
