-- `changes::switch::disable_column_access_acceleration_in` meets its contract. Assumes nothing.
use Rattle.changes.proofs.Switches.{off-done}
use Rattle.changes.proofs.switch.disable_column_access_acceleration_in.Goals as goal

pub returns-clause-told : goal.returns-clause-told
returns-clause-told c = off-done _ c.requires _ _ _ c.clear.ensures c.clear-2.ensures c.clear-3.ensures
