-- `sparse_vec::passes::merge_up` meets its contract. Assumes nothing.
use Rattle.sparse_vec.proofs.Laying.{Up}
use Prim.Native.Nat.{◌+◌}
use Rattle.sparse_vec.proofs.passes.merge_up.Given as goal

abbrev pub invariant-loop-j : goal.invariant-loop-j
invariant-loop-j l = Up l.initial.slots l.slots l.to.at l.to.len l.from.at l.from.len l.n l.i l.j l.w l.b

abbrev pub decreases-loop-j : goal.decreases-loop-j
decreases-loop-j l = l.i + l.j
