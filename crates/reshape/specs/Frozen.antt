-- FREEZE: its place, and what its inner functions ask of one home row. Assumes nothing.
use Rattle.std.specs.Prelude.{List, ℕ, ◌*◌, ◌≤◌, ◌<◌, length, get_or}
use Rattle.sparse_vec.specs.Row.{HasRow}
use Rattle.table.specs.declared.Column.{Column}

-- FREEZE
abbrev pub freezing : ℕ → Column
freezing c = record { c = c }

-- the list of home row y, of k slots, lies in the lent slots
pub record CanTake (slots counts : List ℕ) (k y : ℕ) : Type 0 where
  pub small : k ≤ 65535
  pub y-in : y < length counts
  pub row : HasRow slots (y * k) (get_or counts y 0) k
