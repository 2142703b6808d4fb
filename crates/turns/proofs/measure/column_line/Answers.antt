-- `turns::measure::column_line` meets its contract. Assumes nothing.
use mathlib.Core.Path.{refl}
use Rattle.turns.proofs.Measuring.{column-small, column-home, column-list, column-measured, column-line}
use Rattle.turns.proofs.measure.column_line.Goals as goal

pub column-requires : goal.column-requires
column-requires c = column-small _ _ c.requires.well_formed c.requires.value

pub home_column-z-requires : goal.home_column-z-requires
home_column-z-requires c = column-home _ _ c.requires.well_formed c.requires.value _ c.column.ensures

pub get-list-requires : goal.get-list-requires
get-list-requires c = column-list _ _ c.requires.well_formed c.requires.value _ _ _ c.column.ensures c.home_column-z.ensures refl

pub column_length-requires : goal.column_length-requires
column_length-requires c = column-measured _ _ c.requires.well_formed c.requires.value _ _ _ c.column.ensures c.home_column-z.ensures refl _ c.get-list.ensures _ refl

pub returns : goal.returns
returns c = column-line _ _ c.requires.well_formed c.requires.value _ _ _ c.column.ensures c.home_column-z.ensures refl _ c.get-list.ensures _ c.column_length.ensures
