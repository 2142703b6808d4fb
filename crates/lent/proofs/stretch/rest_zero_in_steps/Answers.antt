-- `lent::stretch::rest_zero_in_steps` meets its contract. Assumes nothing.
use mathlib.Core.Path.{sym, ◌∙◌}
use native.Mathlib.Omega.{arith}
use Rattle.lent.proofs.Scanning.{scan-start, scan-step, scan-fails, scan-done}
use Rattle.lent.proofs.Numbers.{nums-length}
use Rattle.lent.proofs.stretch.rest_zero_in_steps.Goals as goal

pub loop-at-init : goal.loop-at-init
loop-at-init g c = scan-start _ _

pub returns-then-not-stretch_zero : goal.returns-then-not-stretch_zero
returns-then-not-stretch_zero g c = scan-fails _ _ _ _ c.loop-at.invariant.started (sym (sym c.stretch_zero.ensures ∙ c.if-not-stretch_zero.true))

pub loop-at-preserved : goal.loop-at-preserved
loop-at-preserved g c = scan-step _ _ _ _ c.loop-at.invariant (sym (sym c.stretch_zero.ensures ∙ c.if-not-stretch_zero.false)) (omega arith)

pub returns : goal.returns
returns g c = let n = g.T.Number in scan-done _ _ _ _ c.loop-at.invariant (omega (arith, c.loop-at-test.false, nums-length n.num n.nums n.nums_law c.args.s.now))
