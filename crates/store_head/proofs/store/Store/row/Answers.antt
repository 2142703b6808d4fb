-- `store_head::Store::row` meets its contract. Assumes nothing.
use mathlib.Core.Path.{refl}
use Rattle.store_head.proofs.Parts.{row_is}
use Rattle.store_head.proofs.store.Store.row.Goals as goal

pub returns : goal.returns
returns c = row_is _ _ _ _ _ _ refl refl
