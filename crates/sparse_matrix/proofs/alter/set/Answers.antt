-- `sparse_matrix::set` meets its contract. Assumes nothing.
use mathlib.Core.Path.{refl}
use Rattle.store_check.proofs.Guarded.{damaged-seen, sound-seen, done-seen}
use Rattle.sparse_matrix.proofs.alter.set.Goals as goal

pub returns-in_err-sound-clause-told : goal.returns-in_err-sound-clause-told
returns-in_err-sound-clause-told c = damaged-seen _ _ _ c.view.ensures _ _ c.from_residual.ensures.1 refl c.in_err-sound.ensures

pub set_in-requires : goal.set_in-requires
set_in-requires c = sound-seen _ _ c.view.ensures c.in_ok-sound.ensures

pub returns-clause-told : goal.returns-clause-told
returns-clause-told c = done-seen _ _ _ c.view.ensures c.in_ok-sound.ensures _ c.set_in.ensures.told
