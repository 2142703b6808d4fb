-- `sparse_vec::mapped::walk` meets its contract. Assumes nothing.
use Rattle.sparse_vec.proofs.Walking.{Listing}
use Rattle.sparse_vec.proofs.mapped.walk.Given as goal

abbrev pub invariant-loop-z : goal.invariant-loop-z
invariant-loop-z l = Listing l.row l.logical l.a l.b l.initial.answers l.answers l.z-index l.n
