-- `reshape::freeze::hint_column_dense_and_frozen_in` meets its contract. Assumes nothing.
use Rattle.store_head.specs.Writing.{cells}
use Rattle.reshape.proofs.Freezes.{over, Turn}
use Rattle.reshape.proofs.freeze.hint_column_dense_and_frozen_in.Given as goal

abbrev pub invariant-loop-row : goal.invariant-loop-row
invariant-loop-row l = Turn (over (cells l.fn.store) l.initial.words) l.z l.row-items l.slots l.counts l.words l.row-index
