-- `sparse_vec::mapped::count_in` meets its contract. Assumes nothing.
use Rattle.sparse_vec.proofs.Walking.{seen_start, seen-in, seen-out, seen_all}
use mathlib.Core.Logic.{inl, inr}
use native.Mathlib.Omega.{arith}
use borrow.Author.Tests.{ltb-false}
use Rattle.sparse_vec.proofs.mapped.count_in.Goals.{then-a-c+then-c-b, else-a-c, else-a-c-via-then-a-c+else-c-b, else-a-c-via-else-a-c}
use Rattle.sparse_vec.proofs.mapped.count_in.Goals as goal

pub loop-z-init : goal.loop-z-init
loop-z-init c = seen_start _ _ _ _

pub bounds-logical-from : goal.bounds-logical-from
bounds-logical-from c = omega (arith, c.requires.low c.loop-z.z-index (omega arith), c.from.ensures)

pub loop-z-preserved : goal.loop-z-preserved
loop-z-preserved c = let z = c.from.ensures in let k = c.from-c.ensures in elim c.if-a-c.branch [
  | then-a-c+then-c-b v ↦ seen-in _ _ _ _ _ _ c.loop-z.invariant _ _ (omega arith) z k (omega arith) (omega arith) _ v.n-is
  | else-a-c v ↦ seen-out _ _ _ _ _ _ c.loop-z.invariant _ _ (omega arith) z k _ v.n-is (elim v.else-a-c.branch [
    | else-a-c-via-then-a-c+else-c-b u ↦ inr (omega (arith, ltb-false))
    | else-a-c-via-else-a-c u ↦ inl (omega arith)
  ])
]

pub returns : goal.returns
returns c = seen_all _ _ _ _ _ _ c.loop-z.invariant (omega arith)
