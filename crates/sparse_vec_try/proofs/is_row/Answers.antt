-- `sparse_vec_try::is_row` meets its contract. Assumes nothing.
use Rattle.sparse_vec_try.proofs.Told.{row_told}
use Rattle.sparse_vec_try.proofs.is_row.Goals as goal

pub returns : goal.returns
returns c = row_told _ _ _ c.sound.ensures
