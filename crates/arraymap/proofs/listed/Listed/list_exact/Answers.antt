-- `arraymap::listed::Listed::list_exact` meets its contract. Assumes nothing.
use mathlib.Core.Path.{refl}
use native.Mathlib.Omega.{arith}
use Rattle.laws.proofs.Passes.{passed_start, passed-more, passed-fails, passed-done}
use Rattle.arraymap.proofs.Tests.{below_at, holds-is, exact-is}
use Rattle.arraymap.proofs.listed.Listed.list_exact.Goals as goal

pub loop-y-init : goal.loop-y-init
loop-y-init c = passed_start _ _

pub holds-requires : goal.holds-requires
holds-requires c = below_at _ _ _ refl _ c.list-y-items.ensures.below c.loop-y-test.true

pub returns-then-not-holds : goal.returns-then-not-holds
returns-then-not-holds c = exact-is _ _ _ _ c.list-y-items.ensures.is _ (passed-fails _ _ _ c.loop-y.invariant c.loop-y-test.true (holds-is _ _ _ refl _ _ _ _ _ refl c.holds.ensures c.if-not-holds.true))

pub loop-y-preserved : goal.loop-y-preserved
loop-y-preserved c = passed-more _ _ _ c.loop-y.invariant c.loop-y-test.true (holds-is _ _ _ refl _ _ _ _ _ refl c.holds.ensures c.if-not-holds.false)

pub returns : goal.returns
returns c = exact-is _ _ _ _ c.list-y-items.ensures.is _ (passed-done _ _ _ c.loop-y.invariant (omega arith))
