-- What a part of the store check leans on, from the parts before it. Assumes nothing.
use Rattle.std.specs.Prelude.{◌≡◌, true, ℕ, ◌≤◌, ◌<◌, length}
use Rattle.laws.specs.Tests.{all_below}
use Rattle.table.specs.Step.{height_limit, width_limit, slot_limit}
use Rattle.model.specs.Store.{Head, Store}
use Rattle.model.specs.Check.{row_at}
use Rattle.model.specs.WellFormed.{Limits}

-- the head's numbers keep the limits: no sum or product of them is too large
pub record Limited (d : Head) : Type 0 where
  pub height : d.h ≤ height_limit
  pub width : d.made ≤ width_limit
  pub made : d.w ≤ d.made
  pub tail : d.n ≤ d.w
  pub slots : d.slots ≤ slot_limit

-- the rows can be tested: the buffers are long enough, and each column made has a logical number
pub record HasRows (s : Store) : Type 0 where
  pub limits : Limits s
  pub mapped : s.head.made ≤ length s.columns.logicals

-- .. and y is one of them
pub record HasRow (s : Store) (y : ℕ) : Type 0 where
  pub rows : HasRows s
  pub low : y < s.head.h

-- the index can be tested: the rows can, and they are right
pub record HasIndex (s : Store) : Type 0 where
  pub rows : HasRows s
  pub right : all_below s.head.h (row_at s) ≡ true
