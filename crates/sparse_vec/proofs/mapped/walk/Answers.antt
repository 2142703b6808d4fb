-- `sparse_vec::mapped::walk` meets its contract. Assumes nothing.
use Rattle.sparse_vec.proofs.Walking.{listing_start, listing-in, listing-out, listing-room, listing-done}
use mathlib.Core.Logic.{inl, inr}
use native.Mathlib.Omega.{arith}
use borrow.Author.Tests.{ltb-false}
use Rattle.sparse_vec.proofs.mapped.walk.Goals.{then-a-c+then-c-b, else-a-c, else-a-c-via-then-a-c+else-c-b, else-a-c-via-else-a-c}
use Rattle.sparse_vec.proofs.mapped.walk.Goals as goal

pub loop-z-init : goal.loop-z-init
loop-z-init c = listing_start _ _ _ _ _ c.requires

pub bounds-logical-from : goal.bounds-logical-from
bounds-logical-from c = omega (arith, c.requires.mapped.low c.loop-z.z-index (omega arith), c.from.ensures)

pub bounds-answers-n : goal.bounds-answers-n
bounds-answers-n c = listing-room _ _ _ _ _ c.requires _ _ _ c.loop-z.invariant _ _ (omega arith) c.from.ensures c.from-c.ensures (omega arith) (omega arith)

pub loop-z-preserved : goal.loop-z-preserved
loop-z-preserved c = let p = c.requires in let z = c.from.ensures in let k = c.from-c.ensures in elim c.if-a-c.branch [
  | then-a-c+then-c-b v ↦ listing-in _ _ _ _ _ p _ _ _ c.loop-z.invariant _ _ (omega arith) z k _ _ v.answers-is v.n-is (omega arith) (omega arith)
  | else-a-c v ↦ listing-out _ _ _ _ _ p _ _ _ c.loop-z.invariant _ _ (omega arith) z k _ _ v.answers-is v.n-is (elim v.else-a-c.branch [
    | else-a-c-via-then-a-c+else-c-b u ↦ inr (omega (arith, ltb-false))
    | else-a-c-via-else-a-c u ↦ inl (omega arith)
  ])
]

pub returns : goal.returns
returns c = listing-done _ _ _ _ _ c.requires _ _ _ c.loop-z.invariant (omega arith)
