-- `lengths::columns::column_length` meets its contract. Assumes nothing.
use Rattle.lengths.proofs.Shown.{ColumnSoFar}
use Rattle.lengths.proofs.columns.column_length.Given as goal

abbrev pub invariant-loop-y : goal.invariant-loop-y
invariant-loop-y l = ColumnSoFar l.list l.logical l.a l.b l.long l.y-index
