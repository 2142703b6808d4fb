-- What the program's own tests tell. Assumes nothing.
use Rattle.std.specs.Prelude.{◌≡◌, List, ℕ, ◌≤◌, ◌<◌, get_or}
use Rattle.laws.specs.Rows.{Rising}
use Rattle.sparse_vec.specs.Row.{Mapped}

-- the numbers rise, and each is in the map
pub record IsRow (row map : List ℕ) : Type 0 where
  pub rising : Rising row
  pub mapped : Mapped row map

-- the places from `from` up to `to` are there, and zero
pub record ZeroBetween (slots : List ℕ) (from to : ℕ) : Type 0 where
  pub zero : (k : ℕ) → from ≤ k → k < to → get_or slots k 0 ≡ 0
