-- `arraymap::check::list_ok` meets its contract. Assumes nothing.
use mathlib.Core.Path.{refl}
use native.Mathlib.Omega.{arith}
use Rattle.arraymap.proofs.Tests.{rises-start, rises-low, rises-high, rises-more, rises-done}
use Rattle.arraymap.proofs.check.list_ok.Goals as goal
use Rattle.arraymap.proofs.check.list_ok.Goals.{then-y-lo-via-then-y-lo, then-y-lo-via-else-y-lo+then-h-y}

pub loop-y-init : goal.loop-y-init
loop-y-init c = rises-start _ _

pub returns-then-y-lo : goal.returns-then-y-lo
returns-then-y-lo c = elim c.then-y-lo.branch [
  | then-y-lo-via-then-y-lo w ↦ rises-low _ _ _ _ c.loop-y.invariant c.loop-y-test.true _ refl w.if-y-lo.true
  | then-y-lo-via-else-y-lo+then-h-y w ↦ rises-high _ _ _ _ c.loop-y.invariant c.loop-y-test.true _ refl w.if-h-y.true
]

pub loop-y-preserved : goal.loop-y-preserved
loop-y-preserved c = rises-more _ _ _ _ c.loop-y.invariant c.loop-y-test.true _ refl c.if-y-lo.false c.if-h-y.false

pub returns : goal.returns
returns c = rises-done _ _ _ _ c.loop-y.invariant (omega arith)
