-- `put` meets its contract. Assumes nothing.
use Rattle.tail.specs.Tail.{tail_put}
use Rattle.tail.proofs.cell.put.Goals as goal

pub returns : goal.returns
unfolding tail_put
returns c = rw (c.with_bit.ensures, c.words_for.ensures, c.padding_of.ensures)
