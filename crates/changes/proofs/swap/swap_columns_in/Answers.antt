-- `changes::swap::swap_columns_in` meets its contract. Assumes nothing.
use native.Mathlib.Omega.{arith}
use Rattle.store_head.proofs.Refuses.{handed-on}
use Rattle.changes.proofs.Swaps.{column-can, maps-can, columns-by-head, columns-in, columns-done}
use Rattle.changes.proofs.swap.swap_columns_in.Goals as goal

pub returns-in_err-refuse_swap_columns-clause-told : goal.returns-in_err-refuse_swap_columns-clause-told
returns-in_err-refuse_swap_columns-clause-told c = handed-on _ _ _ _ c.from_residual.ensures.1 (columns-by-head _ _ _ c.in_err-refuse_swap_columns.ensures)

pub column-p-requires : goal.column-p-requires
column-p-requires c = column-can _ c.requires _ (columns-in _ c.requires _ (columns-by-head _ _ _ c.in_ok-refuse_swap_columns.ensures)).0

pub column-q-requires : goal.column-q-requires
column-q-requires c = column-can _ c.requires _ (columns-in _ c.requires _ (columns-by-head _ _ _ c.in_ok-refuse_swap_columns.ensures)).1

pub swap_columns-requires : goal.swap_columns-requires
swap_columns-requires c = let b = columns-in _ c.requires _ (columns-by-head _ _ _ c.in_ok-refuse_swap_columns.ensures) in maps-can _ _ c.requires.maps.columns _ _ (omega (arith, c.column-p.ensures, b.0, c.requires.maps.wide)) (omega (arith, c.column-q.ensures, b.1, c.requires.maps.wide))

pub returns-clause-told : goal.returns-clause-told
returns-clause-told c = let b = columns-in _ c.requires _ (columns-by-head _ _ _ c.in_ok-refuse_swap_columns.ensures) in columns-done _ _ _ _ _ _ c.column-p.ensures c.column-q.ensures c.swap_columns.ensures.0 c.swap_columns.ensures.1 b.0 b.1
