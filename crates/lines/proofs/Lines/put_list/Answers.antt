-- `lines::Lines::put_list` meets its contract. Assumes nothing.
use Rattle.std.proofs.Common.{arith, map}
use Rattle.lines.proofs.Writing.{long_ok}
use Rattle.lines.proofs.Written.{long-after, both-wrote}
use Rattle.lines.proofs.Lines.put_list.Goals as goal

pub put-requires : goal.put-requires
put-requires g c = omega (arith, long_ok (map g.T.Decimal.number c.args.nums.now))

pub put-requires-2 : goal.put-requires-2
put-requires-2 g c = omega (arith, long_ok (map g.T.Decimal.number c.args.nums.now), long-after c.put.ensures)

pub put_numbers-requires : goal.put_numbers-requires
put_numbers-requires g c = omega (arith, long_ok (map g.T.Decimal.number c.args.nums.now), long-after (both-wrote c.put.ensures c.put-2.ensures))

pub put-requires-3 : goal.put-requires-3
put-requires-3 g c = omega (arith, long_ok (map g.T.Decimal.number c.args.nums.now), long-after (both-wrote c.put.ensures (both-wrote c.put-2.ensures c.put_numbers.ensures)))

pub returns : goal.returns
unfolding Rattle.lines.specs.Line.line_of
returns g c = both-wrote c.put.ensures (both-wrote c.put-2.ensures (both-wrote c.put_numbers.ensures c.put-3.ensures))
