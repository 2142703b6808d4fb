-- `sparse_matrix::enable_column_access_acceleration` meets its contract. Assumes nothing.
use mathlib.Core.Path.{refl}
use Rattle.store_check.proofs.Guarded.{damaged-seen, sound-seen, done-seen}
use Rattle.sparse_matrix.proofs.index.enable_column_access_acceleration.Goals as goal

pub returns-in_err-sound-clause-told : goal.returns-in_err-sound-clause-told
returns-in_err-sound-clause-told c = damaged-seen _ _ _ c.view.ensures _ _ c.from_residual.ensures.1 refl c.in_err-sound.ensures

pub enable_column_access_acceleration_in-requires : goal.enable_column_access_acceleration_in-requires
enable_column_access_acceleration_in-requires c = sound-seen _ _ c.view.ensures c.in_ok-sound.ensures

pub returns-clause-told : goal.returns-clause-told
returns-clause-told c = done-seen _ _ _ c.view.ensures c.in_ok-sound.ensures _ c.enable_column_access_acceleration_in.ensures.told
