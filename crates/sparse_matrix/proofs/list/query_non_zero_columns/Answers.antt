-- `sparse_matrix::query_non_zero_columns` meets its contract. Assumes nothing.
use mathlib.Core.Path.{refl}
use Rattle.store_head.proofs.Calls.{sound, whole-result}
use Rattle.store_check.proofs.Guarded.{damaged-list}
use Rattle.sparse_matrix.proofs.list.query_non_zero_columns.Goals as goal

pub returns-in_err-sound : goal.returns-in_err-sound
returns-in_err-sound c = damaged-list _ _ _ _ _ c.from_residual.ensures.1 refl c.in_err-sound.ensures

pub query_non_zero_columns_in-requires : goal.query_non_zero_columns_in-requires
query_non_zero_columns_in-requires c = sound _ c.in_ok-sound.ensures

pub returns : goal.returns
returns c = whole-result _ _ _ c.in_ok-sound.ensures c.query_non_zero_columns_in.ensures
