-- `sparse_vec::mapped::retain` meets its contract. Assumes nothing.
use Rattle.sparse_vec.proofs.Keeping.{Keeping}
use Rattle.sparse_vec.proofs.mapped.retain.Given as goal

abbrev pub invariant-loop-i : goal.invariant-loop-i
invariant-loop-i l = Keeping l.initial.slots l.slots l.row.at l.row.len l.logical l.w l.i l.n
