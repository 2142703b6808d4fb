-- `cells::add::add_assign_rows_in` meets its contract. Assumes nothing.
use Rattle.store_head.proofs.Refuses.{handed-on, seen-refused}
use Rattle.cells.proofs.Adds.{home-d, home-s, spend-can, lists-can, tail-can, add_done}
use Rattle.cells.proofs.add.add_assign_rows_in.Goals as goal

pub returns-in_err-refuse_add-clause-told : goal.returns-in_err-refuse_add-clause-told
returns-in_err-refuse_add-clause-told c = handed-on _ _ _ _ c.from_residual.ensures.1 (seen-refused _ _ _ c.view.ensures _ c.in_err-refuse_add.ensures)

pub home_row-y-requires : goal.home_row-y-requires
home_row-y-requires c = home-d _ c.requires _ (seen-refused _ _ _ c.view.ensures _ c.in_ok-refuse_add.ensures)

pub home_row-x-requires : goal.home_row-x-requires
home_row-x-requires c = home-s _ c.requires _ (seen-refused _ _ _ c.view.ensures _ c.in_ok-refuse_add.ensures)

pub spend-requires : goal.spend-requires
spend-requires c = spend-can _ c.requires _ (seen-refused _ _ _ c.view.ensures _ c.in_ok-refuse_add.ensures) _ _ c.home_row-y.ensures c.home_row-x.ensures

pub add_lists-requires : goal.add_lists-requires
add_lists-requires c = lists-can _ c.requires _ (seen-refused _ _ _ c.view.ensures _ c.in_ok-refuse_add.ensures) _ _ c.home_row-y.ensures c.home_row-x.ensures

pub xor_rows-requires : goal.xor_rows-requires
xor_rows-requires c = tail-can _ c.requires _ (seen-refused _ _ _ c.view.ensures _ c.in_ok-refuse_add.ensures) _ _ c.home_row-y.ensures c.home_row-x.ensures _ c.words_for.ensures

pub returns-clause-told : goal.returns-clause-told
returns-clause-told c = add_done _ c.requires _ (seen-refused _ _ _ c.view.ensures _ c.in_ok-refuse_add.ensures) _ _ c.home_row-y.ensures c.home_row-x.ensures _ _ _ _ _ c.words_for.ensures c.spend.ensures c.add_lists.ensures c.xor_rows.ensures

pub refuse_add-requires : goal.refuse_add-requires
refuse_add-requires c = rw c.view.ensures c.requires
