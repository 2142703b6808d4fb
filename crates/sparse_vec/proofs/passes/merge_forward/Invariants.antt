-- `sparse_vec::passes::merge_forward` meets its contract. Assumes nothing.
use Rattle.sparse_vec.specs.Passes.{Merging}
use Prim.Native.Nat.{◌+◌, ◌-◌}
use Rattle.sparse_vec.proofs.passes.merge_forward.Given as goal

abbrev pub invariant-loop-i : goal.invariant-loop-i
invariant-loop-i l = Merging l.initial.slots l.slots l.to.at l.to.len l.from.at l.from.len l.i l.j l.n

abbrev pub decreases-loop-i : goal.decreases-loop-i
decreases-loop-i l = (l.to.len - l.i) + (l.from.len - l.j)
