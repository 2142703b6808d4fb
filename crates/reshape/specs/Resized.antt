-- RESIZE: its places, and what its inner functions ask of two rows. Assumes nothing.
use Rattle.std.specs.Prelude.{List, ℕ, ◌*◌, ◌<◌, length}
use Rattle.lent.specs.Stretch.{Apart}
use Rattle.table.specs.declared.Shape.{Shape}

-- RESIZE
abbrev pub resizing : ℕ → ℕ → Shape
resizing h w = record { h = h; w = w }

-- the k places of home rows y and x lie apart, and both have a count
pub record CanTrade (slots counts : List ℕ) (k y x : ℕ) : Type 0 where
  pub places : Apart slots (y * k) (x * k) k
  pub y-in : y < length counts
  pub x-in : x < length counts
