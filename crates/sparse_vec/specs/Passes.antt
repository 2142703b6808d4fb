-- What the inner functions find and leave: the search, the moves of a stretch, and the passes of an addition. Assumes nothing.
use Rattle.std.specs.Prelude.{◌≡◌, ◌⊎◌, List, ◌∷◌, ◌++◌, ℕ, suc, ◌+◌, ◌≤◌, ◌<◌, length, get_or, take, drop}
use Rattle.laws.specs.Rows.{Rising, xor_merge}
use Rattle.laws.specs.Parts.{part, put_at}
use Rattle.sparse_vec.specs.Row.{row_sum}

-- x is looked for among the n numbers from place `at` on: all before them are below x, all after them above it
pub record Within (row : List ℕ) (x at n : ℕ) : Type 0 where
  pub some : 1 ≤ n
  pub inside : at + n ≤ length row
  pub below : (k : ℕ) → k < at → get_or row k 0 < x
  pub above : (k : ℕ) → at + n ≤ k → k < length row → x < get_or row k 0

-- the list with x before its place i
unfoldable pub insert_at : ℕ → ℕ → List ℕ → List ℕ
insert_at i x l = take i l ++ (x ∷ drop i l)

-- the list without its place i
unfoldable pub remove_at : ℕ → List ℕ → List ℕ
remove_at i l = take i l ++ drop (suc i) l

-- the k numbers at `from` can be written from `to` on, first to last, and none is overwritten before it is read
pub record CanBring (slots : List ℕ) (to from k : ℕ) : Type 0 where
  pub fit-to : to + k ≤ length slots
  pub fit-from : from + k ≤ length slots
  pub order : (to ≤ from) ⊎ (from + k ≤ to)

-- ---- the one pass where both rows together have room

-- a stretch at d with room for dl + sl numbers, and the sl numbers at s apart from it
pub record CanMerge (slots : List ℕ) (d dl s sl : ℕ) : Type 0 where
  pub fit-d : d + (dl + sl) ≤ length slots
  pub fit-s : s + sl ≤ length slots
  pub apart : (d + (dl + sl) ≤ s) ⊎ (s + sl ≤ d)

-- T is S after i of the dl numbers at d + sl and j of the sl numbers at s are merged: n numbers of the sum stand at d;
-- what is after them, up to the first number not yet read, may be anything
pub record Merging (S T : List ℕ) (d dl s sl i j n : ℕ) : Type 0 where
  pub i-le : i ≤ dl
  pub j-le : j ≤ sl
  pub n-le : n ≤ i + j
  pub n-in : n ≤ length (row_sum S (d + sl) dl s sl)
  pub same : length T ≡ length S
  pub done : (k : ℕ) → k < n → get_or T (d + k) 0 ≡ get_or (row_sum S (d + sl) dl s sl) k 0
  pub left : (k : ℕ) → i ≤ k → k < dl → get_or T (d + sl + k) 0 ≡ get_or S (d + sl + k) 0
  pub below : (m : ℕ) → m < d → get_or T m 0 ≡ get_or S m 0
  pub above : (m : ℕ) → d + (dl + sl) ≤ m → get_or T m 0 ≡ get_or S m 0
  pub rest : drop n (row_sum S (d + sl) dl s sl) ≡ xor_merge (drop i (part S (d + sl) dl)) (drop j (part S s sl))

-- the same, with one of the two rows used up
pub record Merged (S T : List ℕ) (d dl s sl i j n : ℕ) : Type 0 where
  pub so_far : Merging S T d dl s sl i j n
  pub used-up : (dl ≤ i) ⊎ (sl ≤ j)

-- ---- the two passes where the sum has room, and both rows together need not

-- the stretch at d holds the n numbers of the sum of two rows, and the source lies outside of it
pub record CanLay (slots : List ℕ) (d dl s sl n : ℕ) : Type 0 where
  pub fit-d : d + dl ≤ length slots
  pub fit_n : d + n ≤ length slots
  pub fit-s : s + sl ≤ length slots
  pub apart : (d + n ≤ s) ⊎ (s + sl ≤ d)
  pub rise-d : Rising (part slots d dl)
  pub rise-s : Rising (part slots s sl)
  pub n-is : n ≡ length (xor_merge (part slots d dl) (part slots s sl))

-- T is O, but for some places p from w on of the sum X at d, where T has X: those where X is no larger than the row D one place before, and those past D
pub record Laid (O T : List ℕ) (d : ℕ) (D X : List ℕ) (w : ℕ) : Type 0 where
  pub same : length T ≡ length O
  pub new-end : (p : ℕ) → w ≤ p → p < length X → length D ≤ p → get_or T (d + p) 0 ≡ get_or X p 0
  pub new-mid : (q p : ℕ) → p ≡ suc q → w ≤ p → p < length X → q < length D → get_or X p 0 ≤ get_or D q 0 → get_or T (d + p) 0 ≡ get_or X p 0
  pub old-low : (p : ℕ) → p < w → get_or T (d + p) 0 ≡ get_or O (d + p) 0
  pub old-mid : (q p : ℕ) → p ≡ suc q → p < length D → p < length X → get_or D q 0 < get_or X p 0 → get_or T (d + p) 0 ≡ get_or O (d + p) 0
  pub old-first : (p : ℕ) → p ≡ 0 → 0 < length D → get_or T (d + p) 0 ≡ get_or O (d + p) 0
  pub old-top : (p : ℕ) → length X ≤ p → get_or T (d + p) 0 ≡ get_or O (d + p) 0
  pub old_below : (m : ℕ) → m < d → get_or T m 0 ≡ get_or O m 0

-- T is what the pass from the top leaves of O
pub record Halfway (O T : List ℕ) (d dl s sl n : ℕ) : Type 0 where
  pub can : CanLay O d dl s sl n
  pub laid : Laid O T d (part O d dl) (xor_merge (part O d dl) (part O s sl)) 0

-- T is what the pass from the top leaves of some list
pub record Half (T : List ℕ) (d dl s sl n : ℕ) : Type 0 where
  pub orig : List ℕ
  pub half : Halfway orig T d dl s sl n

-- W is T with the sum at d, whatever list T is halfway of
pub record Settled (T W : List ℕ) (d dl s sl n : ℕ) : Type 0 where
  pub sum : (o : List ℕ) → Halfway o T d dl s sl n → W ≡ put_at T d (xor_merge (part o d dl) (part o s sl))
