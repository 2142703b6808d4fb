-- `sparse_vec_try::walk` meets its contract. Assumes nothing.
use Rattle.sparse_vec_try.proofs.Told.{can-walk}
use native.Mathlib.Omega.{arith}
use Rattle.sparse_vec_try.proofs.walk.Goals as goal

pub count_in-requires : goal.count_in-requires
count_in-requires c = (c.is_row.ensures c.if-is_row.true).mapped

pub walk-requires : goal.walk-requires
walk-requires c = can-walk _ _ _ _ _ (c.is_row.ensures c.if-is_row.true) (omega arith)
