-- `get` meets its contract. Assumes nothing.
use Rattle.laws.specs.Words.{digit}
use Rattle.tail.specs.Tail.{tail_bit}
use Rattle.tail.proofs.cell.get.Goals as goal

pub returns : goal.returns
unfolding tail_bit digit
returns c = rw (c.words_for.ensures, c.padding_of.ensures)
