-- What the public calls beside insert and add ask of their numbers. Assumes nothing.
use Rattle.std.specs.Prelude.{List, ℕ, ◌≤◌, length}
use Rattle.laws.specs.Parts.{part}
use Rattle.sparse_vec.specs.Row.{HasRow, Mapped, walked}

-- the row can be read through the map, and its numbers of a to b-1 have room in the answers
pub record CanWalk (row logical : List ℕ) (a b : ℕ) (answers : List ℕ) : Type 0 where
  pub mapped : Mapped row logical
  pub room : length (walked logical a b row) ≤ length answers

-- there is a row, and it can be read through the map
pub record CanRetain (slots : List ℕ) (at len cap : ℕ) (logical : List ℕ) : Type 0 where
  pub row : HasRow slots at len cap
  pub mapped : Mapped (part slots at len) logical
