-- `turns::measure::tail_line` meets its contract. Assumes nothing.
use mathlib.Core.Path.{refl}
use Rattle.turns.proofs.Measuring.{tail-home, tail-measured, tail-line}
use Rattle.turns.proofs.measure.tail_line.Goals as goal

pub home_row-y-requires : goal.home_row-y-requires
home_row-y-requires c = tail-home _ _ c.requires.well_formed c.requires.value

pub tail_length-requires : goal.tail_length-requires
tail_length-requires c = tail-measured _ _ c.requires.well_formed c.requires.value _ _ c.home_row-y.ensures refl

pub returns : goal.returns
returns c = tail-line _ _ c.requires.well_formed c.requires.value _ _ c.home_row-y.ensures refl _ c.tail_length.ensures
