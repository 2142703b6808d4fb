-- `sparse_matrix::get_sub_row` meets its contract. Assumes nothing.
use mathlib.Core.Path.{refl}
use Rattle.store_head.proofs.Calls.{sound, whole-reply}
use Rattle.store_check.proofs.Guarded.{damaged-says}
use Rattle.store_head.specs.Told.{words_says}
use Rattle.sparse_matrix.proofs.ask.get_sub_row.Goals as goal

pub returns-in_err-sound-clause-told : goal.returns-in_err-sound-clause-told
returns-in_err-sound-clause-told c = damaged-says _ _ words_says _ _ (λ j. refl) c.from_residual.ensures.1 refl c.in_err-sound.ensures

pub get_sub_row_in-requires : goal.get_sub_row_in-requires
get_sub_row_in-requires c = sound _ c.in_ok-sound.ensures

pub returns-clause-told : goal.returns-clause-told
returns-clause-told c = whole-reply _ _ _ c.in_ok-sound.ensures c.get_sub_row_in.ensures.told
