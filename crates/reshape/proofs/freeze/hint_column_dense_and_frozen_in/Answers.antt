-- `reshape::freeze::hint_column_dense_and_frozen_in` meets its contract. Assumes nothing.
use mathlib.Core.Path.{refl}
use native.Mathlib.Omega.{arith}
use Rattle.store_head.proofs.Refuses.{handed-on, seen-refused}
use Rattle.reshape.proofs.Freezes.{column-low, home-in, grow-can, list-can, turn-start, turn-take, turn-tail, turn-next, freeze-done}
use Rattle.reshape.proofs.freeze.hint_column_dense_and_frozen_in.Goals as goal

pub refuse_freeze-requires : goal.refuse_freeze-requires
refuse_freeze-requires c = rw c.view.ensures c.requires

pub returns-in_err-refuse_freeze-clause-told : goal.returns-in_err-refuse_freeze-clause-told
returns-in_err-refuse_freeze-clause-told c = handed-on _ _ _ _ c.from_residual.ensures.1 (seen-refused _ _ _ c.view.ensures _ c.in_err-refuse_freeze.ensures)

pub column-requires : goal.column-requires
column-requires c = column-low _ c.requires _ (seen-refused _ _ _ c.view.ensures _ c.in_ok-refuse_freeze.ensures)

pub home_column-z-requires : goal.home_column-z-requires
home_column-z-requires c = home-in _ c.requires _ (seen-refused _ _ _ c.view.ensures _ c.in_ok-refuse_freeze.ensures) _ c.column.ensures

pub grow-requires : goal.grow-requires
grow-requires c = grow-can _ c.requires _ (seen-refused _ _ _ c.view.ensures _ c.in_ok-refuse_freeze.ensures)

pub overflow_add-n : goal.overflow_add-n
overflow_add-n c = omega (arith, (grow-can _ c.requires _ (seen-refused _ _ _ c.view.ensures _ c.in_ok-refuse_freeze.ensures)).small)

pub get-row-items-requires : goal.get-row-items-requires
get-row-items-requires c = list-can _ c.requires _ (seen-refused _ _ _ c.view.ensures _ c.in_ok-refuse_freeze.ensures) _ _ c.column.ensures c.home_column-z.ensures _ refl

pub loop-row-init : goal.loop-row-init
loop-row-init c = turn-start _ _ _

pub take_out-had-requires : goal.take_out-had-requires
take_out-had-requires c = turn-take _ c.requires _ (seen-refused _ _ _ c.view.ensures _ c.in_ok-refuse_freeze.ensures) _ _ c.column.ensures c.home_column-z.ensures _ refl _ c.get-row-items.ensures _ c.grow.ensures _ _ _ _ c.loop-row.invariant c.loop-row-test.true _ refl

pub put_first-requires : goal.put_first-requires
put_first-requires c = turn-tail _ c.requires _ (seen-refused _ _ _ c.view.ensures _ c.in_ok-refuse_freeze.ensures) _ _ c.column.ensures c.home_column-z.ensures _ refl _ c.get-row-items.ensures _ c.grow.ensures _ _ _ _ c.loop-row.invariant c.loop-row-test.true _ refl

pub loop-row-preserved : goal.loop-row-preserved
loop-row-preserved c = turn-next _ c.requires _ (seen-refused _ _ _ c.view.ensures _ c.in_ok-refuse_freeze.ensures) _ _ c.column.ensures c.home_column-z.ensures _ refl _ c.get-row-items.ensures _ c.grow.ensures _ _ _ _ c.loop-row.invariant c.loop-row-test.true _ refl _ _ _ _ c.take_out-had.ensures c.put_first.ensures

pub returns-clause-told : goal.returns-clause-told
returns-clause-told c = freeze-done _ c.requires _ (seen-refused _ _ _ c.view.ensures _ c.in_ok-refuse_freeze.ensures) _ _ c.column.ensures c.home_column-z.ensures _ refl _ c.get-row-items.ensures _ c.grow.ensures _ _ _ _ c.loop-row.invariant c.loop-row-test.false
