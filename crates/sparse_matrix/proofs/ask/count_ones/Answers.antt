-- `sparse_matrix::count_ones` meets its contract. Assumes nothing.
use mathlib.Core.Path.{refl}
use Rattle.store_head.proofs.Calls.{sound, whole-reply}
use Rattle.store_check.proofs.Guarded.{damaged-says}
use Rattle.store_head.specs.Told.{number_says}
use Rattle.sparse_matrix.proofs.ask.count_ones.Goals as goal

pub returns-in_err-sound : goal.returns-in_err-sound
returns-in_err-sound c = damaged-says _ _ number_says _ _ (λ j. refl) c.from_residual.ensures.1 refl c.in_err-sound.ensures

pub count_ones_in-requires : goal.count_ones_in-requires
count_ones_in-requires c = sound _ c.in_ok-sound.ensures

pub returns : goal.returns
returns c = whole-reply _ _ _ c.in_ok-sound.ensures c.count_ones_in.ensures
