-- `lines::replies::no_length` meets its contract. Assumes nothing.
use Rattle.lines.proofs.Writing.{long-no}
use Rattle.lines.proofs.replies.no_length.Goals as goal

pub returns : goal.returns
returns c = rw (long-no c.args.k, c.dec_length.ensures.0, c.from.ensures)
