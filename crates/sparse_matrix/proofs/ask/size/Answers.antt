-- `sparse_matrix::size` meets its contract. Assumes nothing.
use mathlib.Core.Path.{refl}
use Rattle.std.specs.Prelude.{Err}
use Rattle.store_head.proofs.Calls.{sound, whole-reply}
use Rattle.store_check.proofs.Guarded.{damaged-says}
use Rattle.store_head.specs.Told.{size_says}
use Rattle.sparse_matrix.proofs.ask.size.Goals as goal

pub returns-in-Err : goal.returns-in-Err
returns-in-Err c = damaged-says _ _ size_says (Err _) _ (λ j. refl) refl refl c.in-Err.ensures

pub size_in-requires : goal.size_in-requires
size_in-requires c = sound _ c.in-Ok.ensures

pub returns-in-Ok : goal.returns-in-Ok
returns-in-Ok c = whole-reply _ _ _ c.in-Ok.ensures c.size_in.ensures
