-- SET: its place, and what its inner functions ask of one home row. Assumes nothing.
use Rattle.std.specs.Prelude.{Bool, List, ℕ, ◌*◌, ◌≤◌, ◌<◌, length, get_or}
use Rattle.laws.specs.Parts.{part}
use Rattle.sparse_vec.specs.Row.{HasRow}
use Rattle.table.specs.declared.SetCell.{SetCell}
use Rattle.table.specs.Step.{slot_limit}
use Rattle.model.specs.Change.{set_row}

-- SET's
abbrev pub place : (r c v : ℕ) → SetCell
place r c v = record { r = r; c = c; v = v }

-- home row y stands in its k places, and has its count
pub record RowKept (slots counts : List ℕ) (y k : ℕ) : Type 0 where
  pub counted : y < length counts
  pub low : k ≤ slot_limit
  pub row : HasRow slots (y * k) (get_or counts y 0) k

-- z can be put into the list at a place, or taken out of it
pub record CanSet (slots : List ℕ) (at len k z : ℕ) (v : Bool) : Type 0 where
  pub row : HasRow slots at len k
  pub room : length (set_row v z (part slots at len)) ≤ k
