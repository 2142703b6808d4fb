-- `sparse_vec_try::retain` meets its contract. Assumes nothing.
use Rattle.sparse_vec_try.proofs.retain.Goals as goal

pub retain-n-requires : goal.retain-n-requires
retain-n-requires c = c.has_row.ensures c.if-has_row.true
