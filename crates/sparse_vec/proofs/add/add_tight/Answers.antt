-- `sparse_vec::add::add_tight` meets its contract. Assumes nothing.
use Rattle.sparse_vec.proofs.Adding.{sum-counted, tight-full, can-lay, half_of, tight-done}
use native.Mathlib.Omega.{arith}
use Rattle.sparse_vec.proofs.add.add_tight.Goals as goal

pub returns-then-to-n : goal.returns-then-to-n
returns-then-to-n c = tight-full _ _ _ _ _ _ c.requires _ (sum-counted _ _ _ _ _ _ _ c.numbers.ensures c.numbers-2.ensures _ c.sum_length-n.ensures) c.if-to-n.true

pub merge_up-requires : goal.merge_up-requires
merge_up-requires c = can-lay _ _ _ _ _ _ c.requires _ (sum-counted _ _ _ _ _ _ _ c.numbers.ensures c.numbers-2.ensures _ c.sum_length-n.ensures) (omega arith)

pub merge_on-requires : goal.merge_on-requires
merge_on-requires c = half_of _ _ _ _ _ _ _ c.merge_up.ensures

pub returns : goal.returns
returns c = tight-done _ _ _ _ _ _ c.requires _ (sum-counted _ _ _ _ _ _ _ c.numbers.ensures c.numbers-2.ensures _ c.sum_length-n.ensures) _ _ (omega arith) c.merge_up.ensures c.merge_on.ensures _ c.clear.ensures
