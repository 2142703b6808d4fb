-- `sparse_vec::passes::merge_on` meets its contract. Assumes nothing.
use Rattle.sparse_vec.proofs.Settling.{On}
use Prim.Native.Nat.{◌+◌, ◌-◌}
use Rattle.sparse_vec.proofs.passes.merge_on.Given as goal

abbrev pub invariant-loop-j : goal.invariant-loop-j
invariant-loop-j l = On l.initial.slots l.slots l.to.at l.to.len l.from.at l.from.len l.n l.i l.j l.w

abbrev pub decreases-loop-j : goal.decreases-loop-j
decreases-loop-j l = (l.to.len - l.i) + (l.from.len - l.j)
