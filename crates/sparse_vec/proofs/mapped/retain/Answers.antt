-- `sparse_vec::mapped::retain` meets its contract. Assumes nothing.
use Rattle.sparse_vec.proofs.Keeping.{keeping_start, keeping-mapped, keeping-in, keeping-out, keeping-clear, keeping-done}
use mathlib.Core.Path.{sym, ap, ◌∙◌}
use lib.ListN.{set}
use Prim.Native.Nat.{ℕ, ◌+◌}
use native.Mathlib.Omega.{arith}
use Rattle.sparse_vec.proofs.mapped.retain.Goals.{then-from-w, else-from-w}
use Rattle.sparse_vec.proofs.mapped.retain.Goals as goal

pub loop-i-init : goal.loop-i-init
loop-i-init c = keeping_start _ _ _ _ _ _ c.requires

pub bounds-logical-from : goal.bounds-logical-from
bounds-logical-from c = keeping-mapped _ _ _ _ _ _ c.requires _ _ _ c.loop-i.invariant _ (omega arith) c.from.ensures

pub loop-i-preserved : goal.loop-i-preserved
loop-i-preserved c = let p = c.requires in let z = c.from.ensures in let k = c.from-in-loop-i.ensures in elim c.if-from-w.branch [
  | then-from-w v ↦ keeping-in _ _ _ _ _ _ p _ _ _ c.loop-i.invariant _ _ (omega arith) z k (omega arith) _ _ (v.slots-is ∙ ap (λ (y : ℕ). set c.loop-i.slots (c.args.row.at + c.loop-i.n) y) (sym z)) v.n-is
  | else-from-w v ↦ keeping-out _ _ _ _ _ _ p _ _ _ c.loop-i.invariant _ _ (omega arith) z k _ _ v.slots-is v.n-is (omega arith)
]

pub clear-requires : goal.clear-requires
clear-requires c = keeping-clear _ _ _ _ _ _ c.requires _ _ _ c.loop-i.invariant

pub returns : goal.returns
returns c = keeping-done _ _ _ _ _ _ c.requires _ _ _ c.loop-i.invariant _ (omega arith) c.clear.ensures
