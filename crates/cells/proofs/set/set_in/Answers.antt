-- `cells::set::set_in` meets its contract. Assumes nothing.
use native.Mathlib.Omega.{arith}
use Rattle.table.specs.declared.SetCell.{SetCell}
use Rattle.model.specs.Store.{Store}
use Rattle.store_head.specs.Writing.{cells}
use Rattle.cells.specs.Cells.{place}
use Rattle.store_head.proofs.Refuses.{handed-on, seen-refused}
use Rattle.cells.proofs.Sets.{tail-can, set-tail, column-in, row_kept, row_low, column-low, has-slot, sparse-done}
use Rattle.cells.proofs.set.set_in.Goals.{Start}
use Rattle.cells.proofs.set.set_in.Goals as goal

-- the place asked for, and the store as it was lent
abbrev asked : Start → SetCell
asked c = place c.args.r c.args.c c.args.v

abbrev entry : Start → Store
entry c = cells c.args.store.now

pub returns-in_err-refuse_set-clause-told : goal.returns-in_err-refuse_set-clause-told
returns-in_err-refuse_set-clause-told c = handed-on _ _ _ _ c.from_residual.ensures.1 (seen-refused _ _ _ c.view.ensures _ c.in_err-refuse_set.ensures)

pub home_row-y-requires : goal.home_row-y-requires
home_row-y-requires c = omega (arith, (row_low (entry (goal.at.home_row-y-requires c).Start) c.requires (asked (goal.at.home_row-y-requires c).Start) (seen-refused _ _ _ c.view.ensures _ c.in_ok-refuse_set.ensures)), c.requires.maps.rows.f-long)

pub put-requires : goal.put-requires
put-requires c = let s = entry (goal.at.put-requires c).Start in let p = asked (goal.at.put-requires c).Start in tail-can s p (row_low s c.requires p (seen-refused _ _ _ c.view.ensures _ c.in_ok-refuse_set.ensures)) c.requires (column-low s c.requires p (seen-refused _ _ _ c.view.ensures _ c.in_ok-refuse_set.ensures)) c.if-edge-c.true _ c.home_row-y.ensures

pub returns-then-edge-c-clause-told : goal.returns-then-edge-c-clause-told
returns-then-edge-c-clause-told c = let s = entry (goal.at.returns-then-edge-c-clause-told c).Start in let p = asked (goal.at.returns-then-edge-c-clause-told c).Start in set-tail _ _ (row_low s c.requires p (seen-refused _ _ _ c.view.ensures _ c.in_ok-refuse_set.ensures)) c.requires (column-low s c.requires p (seen-refused _ _ _ c.view.ensures _ c.in_ok-refuse_set.ensures)) c.if-edge-c.true _ c.home_row-y.ensures _ c.put.ensures

pub home_column-z-requires : goal.home_column-z-requires
home_column-z-requires c = let s = entry (goal.at.home_column-z-requires c).Start in let p = asked (goal.at.home_column-z-requires c).Start in column-in s p (row_low s c.requires p (seen-refused _ _ _ c.view.ensures _ c.in_ok-refuse_set.ensures)) c.requires c.if-edge-c.false _ c.column.ensures

pub change_row-requires : goal.change_row-requires
change_row-requires c = let s = entry (goal.at.change_row-requires c).Start in let p = asked (goal.at.change_row-requires c).Start in record { row_kept = row_kept s p (row_low s c.requires p (seen-refused _ _ _ c.view.ensures _ c.in_ok-refuse_set.ensures)) c.requires _ c.home_row-y.ensures; y_len_bound = has-slot s c.requires p (seen-refused _ _ _ c.view.ensures _ c.in_ok-refuse_set.ensures) c.if-edge-c.false _ _ _ c.home_row-y.ensures c.column.ensures c.home_column-z.ensures }

pub returns-clause-told : goal.returns-clause-told
returns-clause-told c = sparse-done _ c.requires _ (seen-refused _ _ _ c.view.ensures _ c.in_ok-refuse_set.ensures) c.if-edge-c.false _ _ _ c.home_row-y.ensures c.column.ensures c.home_column-z.ensures _ _ c.change_row.ensures

pub refuse_set-requires : goal.refuse_set-requires
refuse_set-requires c = rw c.view.ensures c.requires
