-- `turns::measure::iter_line` meets its contract. Assumes nothing.
use Rattle.turns.proofs.Measuring.{iter-home, iter-slots, row-measured, iter-line}
use Rattle.turns.proofs.measure.iter_line.Goals as goal

pub home_row-y-requires : goal.home_row-y-requires
home_row-y-requires c = iter-home _ _ c.requires.well_formed c.requires.value

pub row-row-requires : goal.row-row-requires
row-row-requires c = iter-slots _ _ c.requires.well_formed c.requires.value _ c.home_row-y.ensures

pub row_length-requires : goal.row_length-requires
row_length-requires c = row-measured _ _ c.requires.well_formed c.requires.value _ c.home_row-y.ensures _ c.row-row.ensures

pub returns : goal.returns
returns c = iter-line _ _ c.requires.well_formed c.requires.value _ _ c.home_row-y.ensures c.row-row.ensures _ c.row_length.ensures
