-- `sparse_vec::mapped::sound` meets its contract. Assumes nothing.
use Rattle.sparse_vec.proofs.Keeping.{tested-start, tested_low, tested-out, tested-high, tested-more, tested-done}
use native.Mathlib.Omega.{arith}
use borrow.Author.Tests.{leb-true, leb-false}
use Rattle.sparse_vec.proofs.mapped.sound.Goals.{then-z-lo-via-then-z-lo, then-z-lo-via-else-z-lo+then-logical-z, then-z-lo-via-else-z-lo+else-logical-z+then-edge-from}
use Rattle.sparse_vec.proofs.mapped.sound.Goals as goal

pub loop-x-init : goal.loop-x-init
loop-x-init c = tested-start _ _ _

pub returns-then-z-lo : goal.returns-then-z-lo
returns-then-z-lo c = let z = c.from-z.ensures in elim c.then-z-lo.branch [
  | then-z-lo-via-then-z-lo v ↦ tested_low _ _ _ _ _ c.loop-x.invariant _ (omega arith) z (omega arith)
  | then-z-lo-via-else-z-lo+then-logical-z v ↦ tested-out _ _ _ _ _ c.loop-x.invariant _ (omega arith) z (omega (arith, leb-true))
  | then-z-lo-via-else-z-lo+else-logical-z+then-edge-from v ↦ tested-high _ _ _ _ _ c.loop-x.invariant _ (omega arith) z _ v.from.ensures (omega arith) (omega (arith, leb-false)) (omega (arith, leb-true))
]

pub loop-x-preserved : goal.loop-x-preserved
loop-x-preserved c = tested-more _ _ _ _ _ c.loop-x.invariant _ (omega arith) c.from-z.ensures _ c.from.ensures (omega arith) (omega arith) (omega arith)

pub returns : goal.returns
returns c = tested-done _ _ _ _ _ c.loop-x.invariant (omega arith)
