-- What numbers take of a line, and when a row, a tail and a column can be measured. Assumes nothing.
use Rattle.std.specs.Prelude.{◌≡◌, ◌&&◌, List, [], ℕ, ◌+◌, ◌*◌, ◌^◌, ◌≤◌, ◌<◌, leb, ltb, length}
use Rattle.laws.specs.Plain.{keep}
use Rattle.laws.specs.Words.{words_for}
use Rattle.lines.specs.Line.{numbers}
use Rattle.sparse_vec.specs.Row.{Mapped}
use Rattle.tail.specs.Tail.{InRow}
use Rattle.arraymap.specs.Show.{CanShow}

-- n alone where it is one of a to b-1, else nothing
abbrev pub within : ℕ → ℕ → ℕ → List ℕ
within a b n = keep (leb a n && ltb n b) n []

-- the numbers of the list, a space before each, take r bytes: at most 21 each
pub record Takes (l : List ℕ) (r : ℕ) : Type 0 where
  pub is : r ≡ length (numbers l)
  pub small : r ≤ 21 * length l

-- every number of the row is in the map, and they are few enough that the length fits
pub record CanMeasureRow (row logical : List ℕ) : Type 0 where
  pub mapped : Mapped row logical
  pub few : length row ≤ 65536

-- the row lies in the lent words, and its numbers fit 32 bits
pub record CanMeasureTail (ws : List ℕ) (n y base : ℕ) : Type 0 where
  pub small : n ≤ 65535
  pub wide : base + n < 2 ^ 32
  pub row : InRow ws (words_for n) y

-- the list can be shown, and its rows are few enough that the length fits
pub record CanMeasureColumn (list homes logical : List ℕ) (h : ℕ) : Type 0 where
  pub shows : CanShow list homes logical h
  pub few : h ≤ 65536
