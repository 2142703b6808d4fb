-- `sparse_vec::change::remove_at` meets its contract. Assumes nothing.
use Rattle.sparse_vec.proofs.OneNumber.{can-shift, remove-moved}
use native.Mathlib.Omega.{arith}
use Rattle.sparse_vec.proofs.change.remove_at.Goals as goal

pub move_stretch-requires : goal.move_stretch-requires
move_stretch-requires c = can-shift _ _ _ _ _ c.requires.0 c.requires.1 (omega arith)

pub returns : goal.returns
returns c = remove-moved _ _ _ _ _ _ c.requires.0 c.requires.1 (omega arith) c.move_stretch.ensures
