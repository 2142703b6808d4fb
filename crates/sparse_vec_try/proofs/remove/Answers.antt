-- `sparse_vec_try::remove` meets its contract. Assumes nothing.
use Rattle.sparse_vec_try.proofs.remove.Goals as goal

pub remove-n-requires : goal.remove-n-requires
remove-n-requires c = (c.has_row.ensures c.if-has_row.true).row
