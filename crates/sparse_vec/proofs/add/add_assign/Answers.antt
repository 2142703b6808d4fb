-- `sparse_vec::add::add_assign` meets its contract. Assumes nothing.
use Rattle.sparse_vec.proofs.Adding.{one-done, can-merge, roomy-done}
use Rattle.sparse_vec.proofs.add.add_assign.Goals as goal

pub returns-then-from-eq1 : goal.returns-then-from-eq1
returns-then-from-eq1 c = one-done _ _ _ _ _ _ c.requires _ _ c.if-from-eq1.true c.add_one.ensures

pub add_roomy-requires : goal.add_roomy-requires
add_roomy-requires c = can-merge _ _ _ _ _ _ c.requires c.if-from-to.true

pub returns-then-from-to : goal.returns-then-from-to
returns-then-from-to c = roomy-done _ _ _ _ _ _ c.requires _ _ c.if-from-to.true c.add_roomy.ensures
