-- What the inner functions of the queries ask. Assumes nothing.
use Rattle.std.specs.Prelude.{List, ℕ, ◌+◌, ◌*◌, ◌≤◌, ◌<◌, length, get_or}

-- home row y has a count, and its list lies in the slots, of `width` places for each row
pub record InSlots (slots counts : List ℕ) (width y : ℕ) : Type 0 where
  pub counted : y < length counts
  pub fits : y * width + get_or counts y 0 ≤ length slots
