-- `sparse_matrix::swap_rows` meets its contract. Assumes nothing.
use mathlib.Core.Path.{refl}
use Rattle.store_check.proofs.Guarded.{damaged-seen, sound-seen, done-seen}
use Rattle.sparse_matrix.proofs.alter.swap_rows.Goals as goal

pub returns-in_err-sound-clause-told : goal.returns-in_err-sound-clause-told
returns-in_err-sound-clause-told c = damaged-seen _ _ _ c.view.ensures _ _ c.from_residual.ensures.1 refl c.in_err-sound.ensures

pub swap_rows_in-requires : goal.swap_rows_in-requires
swap_rows_in-requires c = sound-seen _ _ c.view.ensures c.in_ok-sound.ensures

pub returns-clause-told : goal.returns-clause-told
returns-clause-told c = done-seen _ _ _ c.view.ensures c.in_ok-sound.ensures _ c.swap_rows_in.ensures.told
