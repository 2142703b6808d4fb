-- `cells::set::change_row` meets its contract. Assumes nothing.
use native.Mathlib.Omega.{arith}
use Rattle.cells.proofs.RowChanges.{row-can, count_fits, row_told}
use Rattle.cells.proofs.set.change_row.Goals as goal

pub bounds-counts-y : goal.bounds-counts-y
bounds-counts-y c = c.requires.row_kept.counted

pub overflow_mul-row : goal.overflow_mul-row
overflow_mul-row c = omega (arith, c.requires.row_kept.row.fits)

pub change_list-more-requires : goal.change_list-more-requires
change_list-more-requires c = row-can _ _ _ _ c.requires.row_kept c.args.z c.args.v c.requires.y_len_bound

pub overflow_cast-counts : goal.overflow_cast-counts
overflow_cast-counts c = omega (arith, count_fits _ _ _ _ c.requires.row_kept c.args.z c.args.v c.requires.y_len_bound _ c.change_list-more.ensures.0)

pub returns : goal.returns
returns c = row_told _ _ _ _ c.requires.row_kept c.args.z c.args.v _ _ c.change_list-more.ensures
