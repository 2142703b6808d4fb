-- `sparse_vec::row::Row::numbers` meets its contract. Assumes nothing.
use Rattle.laws.proofs.Parts.{part-is}
use Rattle.sparse_vec.proofs.row.Row.numbers.Goals as goal

pub returns : goal.returns
returns c = rw part-is
