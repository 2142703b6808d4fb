-- `respace` meets its contract: the rows from y on are re-spaced. Assumes nothing.
use mathlib.Core.Path.{refl}
use native.Mathlib.Omega.{arith}
use Rattle.tail.proofs.Spaced.{one_less, space-more, space-done}
use Rattle.tail.proofs.space.respace.Goals as goal

pub loop-y-preserved : goal.loop-y-preserved
loop-y-preserved c = space-more _ _ _ c.requires _ _ _ _ _ c.loop-y.invariant c.move_stretch.ensures (omega arith) (omega arith) refl refl (one_less _ _ (omega arith))

pub returns : goal.returns
returns c = space-done _ _ _ c.requires _ _ c.loop-y.invariant (omega arith)
