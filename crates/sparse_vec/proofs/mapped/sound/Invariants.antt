-- `sparse_vec::mapped::sound` meets its contract. Assumes nothing.
use Rattle.sparse_vec.proofs.Keeping.{Tested}
use Rattle.sparse_vec.proofs.mapped.sound.Given as goal

abbrev pub invariant-loop-x : goal.invariant-loop-x
invariant-loop-x l = Tested l.row l.logical l.edge l.lo l.x-index
