-- `reshape::resize::keep_row` meets its contract. Assumes nothing.
use native.Mathlib.Omega.{arith}
use Rattle.reshape.proofs.Resizes.{row-can, kept_low, row_kept}
use Rattle.reshape.proofs.resize.keep_row.Goals as goal

pub retain-kept-requires : goal.retain-kept-requires
retain-kept-requires c = row-can _ c.requires.well_formed _ c.requires.y_low 0

pub overflow_cast-store : goal.overflow_cast-store
overflow_cast-store c = omega (arith, kept_low _ c.requires.well_formed _ c.requires.y_low _ _ _ c.retain-kept.ensures)

pub returns-clause-told : goal.returns-clause-told
returns-clause-told c = row_kept _ c.requires.well_formed _ c.requires.y_low _ _ _ c.retain-kept.ensures
