-- `lengths::rows::row_length` meets its contract. Assumes nothing.
use Rattle.lengths.proofs.Walks.{RowSoFar}
use Rattle.lengths.proofs.rows.row_length.Given as goal

abbrev pub invariant-loop-z : goal.invariant-loop-z
invariant-loop-z l = RowSoFar l.row l.logical l.a l.b l.long l.z-index
