-- `reshape::resize::resize_in` meets its contract. Assumes nothing.
use mathlib.Core.Path.{refl}
use Rattle.store_head.proofs.Refuses.{handed-on}
use Rattle.reshape.proofs.Resizes.{by-head}
use Rattle.reshape.proofs.Shrinks.{can, all_home-ok, all_home-low, rows_ok, still-off, rows-done, columns-done}
use Rattle.reshape.proofs.resize.resize_in.Goals as goal

pub returns-in_err-refuse_resize-clause-told : goal.returns-in_err-refuse_resize-clause-told
returns-in_err-refuse_resize-clause-told c = handed-on _ _ _ _ c.from_residual.ensures.1 (by-head _ _ refl _ _ c.in_err-refuse_resize.ensures)

pub bring_all-requires-clause-off : goal.bring_all-requires-clause-off
bring_all-requires-clause-off c = (can _ c.requires _ (by-head _ _ refl _ _ c.in_ok-refuse_resize.ensures)).off

pub bring_all-requires-clause-k_low : goal.bring_all-requires-clause-k_low
bring_all-requires-clause-k_low c = (can _ c.requires _ (by-head _ _ refl _ _ c.in_ok-refuse_resize.ensures)).lower

pub drop_rows-requires-clause-well_formed : goal.drop_rows-requires-clause-well_formed
drop_rows-requires-clause-well_formed c = all_home-ok _ c.requires _ (by-head _ _ refl _ _ c.in_ok-refuse_resize.ensures) _ c.bring_all.ensures.told

pub drop_rows-requires-clause-k_low : goal.drop_rows-requires-clause-k_low
drop_rows-requires-clause-k_low c = all_home-low _ c.requires _ (by-head _ _ refl _ _ c.in_ok-refuse_resize.ensures) _ c.bring_all.ensures.told

pub drop_columns-requires-clause-well_formed : goal.drop_columns-requires-clause-well_formed
drop_columns-requires-clause-well_formed c = rows_ok _ c.requires _ (by-head _ _ refl _ _ c.in_ok-refuse_resize.ensures) _ c.bring_all.ensures.told _ c.drop_rows.ensures.told

pub drop_columns-requires-clause-off : goal.drop_columns-requires-clause-off
drop_columns-requires-clause-off c = still-off _ c.requires _ (by-head _ _ refl _ _ c.in_ok-refuse_resize.ensures) _ c.bring_all.ensures.told _ c.drop_rows.ensures.told

pub returns-then-w-head-clause-told : goal.returns-then-w-head-clause-told
returns-then-w-head-clause-told c = columns-done _ c.requires _ (by-head _ _ refl _ _ c.in_ok-refuse_resize.ensures) _ c.bring_all.ensures.told _ c.drop_rows.ensures.told c.if-w-head.true _ c.drop_columns.ensures.told

pub returns-else-w-head-clause-told : goal.returns-else-w-head-clause-told
returns-else-w-head-clause-told c = rows-done _ c.requires _ (by-head _ _ refl _ _ c.in_ok-refuse_resize.ensures) _ c.bring_all.ensures.told _ c.drop_rows.ensures.told c.if-w-head.false
