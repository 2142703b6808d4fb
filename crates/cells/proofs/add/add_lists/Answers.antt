-- `cells::add::add_lists` meets its contract. Assumes nothing.
use mathlib.Core.Path.{refl}
use native.Mathlib.Omega.{arith}
use Rattle.cells.proofs.Sums.{can-add, lists-kept, never-full, new-count, lists-done}
use Rattle.cells.proofs.add.add_lists.Goals as goal

pub returns-then-not-all : goal.returns-then-not-all
returns-then-not-all c = lists-kept _ _ _ _ _ _ c.requires c.if-not-all.true

pub add_assign-requires : goal.add_assign-requires
add_assign-requires c = can-add _ _ _ _ _ c.requires.rows _ _ refl refl

pub returns-in_default : goal.returns-in_default
returns-in_default c = absurd (never-full _ _ _ _ _ c.requires.rows _ _ refl refl _ c.if-not-all.false c.requires.room _ c.add_assign.ensures.0 c.in_default.is)

pub overflow_cast-counts : goal.overflow_cast-counts
overflow_cast-counts c = omega (arith, new-count _ _ _ _ _ c.requires.rows _ _ refl refl _ c.if-not-all.false c.requires.room _ c.add_assign.ensures.0 _ c.in-Some.is, c.requires.room c.if-not-all.false)

pub returns : goal.returns
returns c = lists-done _ _ _ _ _ c.requires.rows _ _ refl refl _ c.if-not-all.false c.requires.room _ c.add_assign.ensures.0 _ c.in-Some.is _ c.add_assign.ensures.1
