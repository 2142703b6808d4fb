-- `arraymap::listed::Listed::row_listed` meets its contract. Assumes nothing.
use mathlib.Core.Path.{refl}
use native.Mathlib.Omega.{arith}
use Rattle.laws.proofs.Passes.{passed_start, passed-more, passed-fails, passed-done}
use Rattle.arraymap.proofs.Tests.{column-in, listed-is, row-listed-is}
use Rattle.arraymap.proofs.listed.Listed.row_listed.Goals as goal

pub loop-z-init : goal.loop-z-init
loop-z-init c = passed_start _ _

pub list-requires : goal.list-requires
list-requires c = column-in _ _ _ _ c.row-z-items.ensures.ok c.loop-z-test.true refl

pub returns-then-not-get_near : goal.returns-then-not-get_near
returns-then-not-get_near c = row-listed-is _ _ _ _ _ _ c.row-z-items.ensures.is (passed-fails _ _ _ c.loop-z.invariant c.loop-z-test.true (listed-is _ _ _ _ c.list.ensures.is _ _ _ _ _ refl c.get_near.ensures c.if-not-get_near.true))

pub loop-z-preserved : goal.loop-z-preserved
loop-z-preserved c = passed-more _ _ _ c.loop-z.invariant c.loop-z-test.true (listed-is _ _ _ _ c.list.ensures.is _ _ _ _ _ refl c.get_near.ensures c.if-not-get_near.false)

pub returns : goal.returns
returns c = row-listed-is _ _ _ _ _ _ c.row-z-items.ensures.is (passed-done _ _ _ c.loop-z.invariant (omega arith))
