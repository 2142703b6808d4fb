-- `lengths::number::length_within` meets its contract. Assumes nothing.
use Rattle.lengths.proofs.Measured.{takes-below, takes-above, takes-within}
use Rattle.lengths.proofs.number.length_within.Goals as goal

pub returns-then-n-a : goal.returns-then-n-a
returns-then-n-a c = takes-below _ _ _ c.if-n-a.true

pub returns-then-b-n : goal.returns-then-b-n
returns-then-b-n c = takes-above _ _ _ c.if-b-n.true

pub returns : goal.returns
returns c = takes-within _ _ _ _ c.if-n-a.false c.if-b-n.false c.number_length.ensures
