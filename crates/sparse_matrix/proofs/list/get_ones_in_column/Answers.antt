-- `sparse_matrix::get_ones_in_column` meets its contract. Assumes nothing.
use mathlib.Core.Path.{refl}
use Rattle.store_head.proofs.Calls.{sound, whole-result}
use Rattle.store_check.proofs.Guarded.{damaged-list}
use Rattle.sparse_matrix.proofs.list.get_ones_in_column.Goals as goal

pub returns-in_err-sound : goal.returns-in_err-sound
returns-in_err-sound c = damaged-list _ _ _ _ _ c.from_residual.ensures.1 refl c.in_err-sound.ensures

pub get_ones_in_column_in-requires : goal.get_ones_in_column_in-requires
get_ones_in_column_in-requires c = sound _ c.in_ok-sound.ensures

pub returns : goal.returns
returns c = whole-result _ _ _ c.in_ok-sound.ensures c.get_ones_in_column_in.ensures
