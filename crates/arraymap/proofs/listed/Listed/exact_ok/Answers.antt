-- `arraymap::listed::Listed::exact_ok` meets its contract. Assumes nothing.
use mathlib.Core.Path.{sym, ◌∙◌}
use native.Mathlib.Omega.{arith}
use Rattle.laws.proofs.Passes.{passed_start, passed-more, passed-fails, passed-done}
use Rattle.arraymap.proofs.Tests.{exact-frozen, exact-spent, exact-yes, exact-no}
use Rattle.arraymap.proofs.listed.Listed.exact_ok.Goals as goal
use Rattle.arraymap.proofs.listed.Listed.exact_ok.Goals.{else-logical-z-via-then-logical-z+then-marks-z-eq0+else-not-list_exact, else-logical-z-via-then-logical-z+else-marks-z-eq0, else-logical-z-via-else-logical-z}

pub loop-z-init : goal.loop-z-init
loop-z-init c = passed_start _ _

pub returns-then-not-list_exact : goal.returns-then-not-list_exact
returns-then-not-list_exact c = passed-fails _ _ _ c.loop-z.invariant c.loop-z-test.true (exact-no _ _ _ _ _ _ _ c.if-logical-z.true c.if-marks-z-eq0.true (sym c.list_exact.ensures ∙ c.if-not-list_exact.true))

pub loop-z-preserved : goal.loop-z-preserved
loop-z-preserved c = passed-more _ _ _ c.loop-z.invariant c.loop-z-test.true (elim c.else-logical-z.branch [
  | else-logical-z-via-then-logical-z+then-marks-z-eq0+else-not-list_exact w ↦ exact-yes _ _ _ _ _ _ _ (sym w.list_exact.ensures ∙ w.if-not-list_exact.false)
  | else-logical-z-via-then-logical-z+else-marks-z-eq0 w ↦ exact-spent _ _ _ _ _ _ _ w.if-marks-z-eq0.false
  | else-logical-z-via-else-logical-z w ↦ exact-frozen _ _ _ _ _ _ _ w.if-logical-z.false
])

pub returns : goal.returns
returns c = passed-done _ _ _ c.loop-z.invariant (omega arith)
