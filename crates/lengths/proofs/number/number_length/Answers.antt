-- `lengths::number::number_length` meets its contract. Assumes nothing.
use Rattle.lengths.proofs.Measured.{takes_one}
use Rattle.lengths.proofs.number.number_length.Goals as goal

pub returns : goal.returns
returns c = takes_one _ _ c.dec_length.ensures.0 c.dec_length.ensures.1
