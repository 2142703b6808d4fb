-- `changes::switch::enable_column_access_acceleration_in` meets its contract. Assumes nothing.
use mathlib.Core.Path.{refl}
use Rattle.store_head.proofs.Refuses.{seen-refused, handed-on}
use Rattle.changes.proofs.Switches.{can-build, on_room, on-done}
use Rattle.changes.proofs.switch.enable_column_access_acceleration_in.Goals as goal

pub refuse_on-requires : goal.refuse_on-requires
refuse_on-requires c = rw c.view.ensures c.requires

pub returns-in_err-refuse_on-clause-told : goal.returns-in_err-refuse_on-clause-told
returns-in_err-refuse_on-clause-told c = handed-on _ _ _ _ c.from_residual.ensures.1 (seen-refused _ _ _ c.view.ensures _ c.in_err-refuse_on.ensures)

pub build-requires : goal.build-requires
build-requires c = can-build _ c.requires _ refl (on_room _ c.requires (seen-refused _ _ _ c.view.ensures _ c.in_ok-refuse_on.ensures))

pub returns-clause-told : goal.returns-clause-told
returns-clause-told c = on-done _ c.requires _ refl (on_room _ c.requires (seen-refused _ _ _ c.view.ensures _ c.in_ok-refuse_on.ensures)) _ _ _ c.clear.ensures c.build.ensures.0 c.build.ensures.1
