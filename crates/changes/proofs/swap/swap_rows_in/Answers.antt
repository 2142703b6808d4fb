-- `changes::swap::swap_rows_in` meets its contract. Assumes nothing.
use Rattle.store_head.proofs.Refuses.{handed-on}
use Rattle.changes.proofs.Swaps.{maps-can, rows-by-head, rows_in, rows-done}
use Rattle.changes.proofs.swap.swap_rows_in.Goals as goal

pub returns-in_err-refuse_swap_rows-clause-told : goal.returns-in_err-refuse_swap_rows-clause-told
returns-in_err-refuse_swap_rows-clause-told c = handed-on _ _ _ _ c.from_residual.ensures.1 (rows-by-head _ _ _ c.in_err-refuse_swap_rows.ensures)

pub swap_rows-requires : goal.swap_rows-requires
swap_rows-requires c = let b = rows_in _ c.requires _ (rows-by-head _ _ _ c.in_ok-refuse_swap_rows.ensures) in maps-can _ _ c.requires.maps.rows _ _ b.0 b.1

pub returns-clause-told : goal.returns-clause-told
returns-clause-told c = let b = rows_in _ c.requires _ (rows-by-head _ _ _ c.in_ok-refuse_swap_rows.ensures) in rows-done _ _ _ _ c.swap_rows.ensures.0 c.swap_rows.ensures.1 b.0 b.1
