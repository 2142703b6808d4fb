-- `lines::Lines::put_no` meets its contract. Assumes nothing.
use Rattle.std.proofs.Common.{arith}
use Rattle.lines.specs.Line.{dec}
use Rattle.lines.proofs.Writing.{long-no}
use Rattle.lines.proofs.Written.{long-after, both-wrote}
use Rattle.lines.proofs.Lines.put_no.Goals as goal

pub put-requires : goal.put-requires
put-requires c = omega (arith, long-no c.args.k)

pub put-requires-2 : goal.put-requires-2
put-requires-2 c = omega (arith, long-no c.args.k, c.put.ensures.used, long-after c.put.ensures)

pub put_spaced-requires : goal.put_spaced-requires
put_spaced-requires c = rw c.from.ensures (omega (arith, long-no c.args.k, long-after (both-wrote c.put.ensures c.put-2.ensures)))

pub put-requires-3 : goal.put-requires-3
put-requires-3 c = let w = both-wrote c.put.ensures (both-wrote c.put-2.ensures c.put_spaced.ensures) in omega (arith, rw c.from.ensures at w.used, long-no c.args.k, long-after w)

pub returns : goal.returns
unfolding Rattle.lines.specs.Line.line_of
returns c = rw (← c.from.ensures) (both-wrote c.put.ensures (both-wrote c.put-2.ensures (both-wrote c.put_spaced.ensures c.put-3.ensures)))
