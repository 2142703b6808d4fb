-- `with_bit` meets its contract. Assumes nothing.
use Rattle.tail.proofs.Digits.{or-is-put, mask-is-put}
use Rattle.tail.proofs.cell.with_bit.Goals as goal

pub returns-then-v : goal.returns-then-v
returns-then-v c = rw c.if-v.true (or-is-put _ _ c.requires)

pub returns-else-v : goal.returns-else-v
returns-else-v c = rw c.if-v.false (mask-is-put _ _ c.requires c.ranges.word.fits)
