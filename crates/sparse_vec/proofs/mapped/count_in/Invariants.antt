-- `sparse_vec::mapped::count_in` meets its contract. Assumes nothing.
use Rattle.sparse_vec.proofs.Walking.{Seen}
use Rattle.sparse_vec.proofs.mapped.count_in.Given as goal

abbrev pub invariant-loop-z : goal.invariant-loop-z
invariant-loop-z l = Seen l.row l.logical l.a l.b l.z-index l.n
