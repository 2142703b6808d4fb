-- `sparse_vec_try::insert` meets its contract. Assumes nothing.
use Rattle.sparse_vec_try.proofs.Told.{can-insert}
use Rattle.sparse_vec_try.proofs.insert.Goals as goal

pub insert-n-requires : goal.insert-n-requires
insert-n-requires c = can-insert _ _ _ _ _ _ (c.has_row.ensures c.if-has_row.true) c.if-row.false
