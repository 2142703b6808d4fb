-- `sparse_vec::change::insert_at` meets its contract. Assumes nothing.
use Rattle.sparse_vec.proofs.OneNumber.{insert-moved}
use Rattle.sparse_vec.proofs.change.insert_at.Goals as goal

pub returns : goal.returns
returns c = insert-moved _ _ _ _ _ _ c.requires.0 c.requires.1 c.move_stretch.ensures
