-- `lines::lists::list_length` meets its contract. Assumes nothing.
use Rattle.std.proofs.Common.{length, ap, arith, map}
use Rattle.lines.specs.Line.{dec, numbers}
use Rattle.lines.proofs.Numbers.{before-end, before-longer}
use Rattle.lines.proofs.Writing.{long_ok}
use Rattle.lines.proofs.lists.list_length.Goals as goal

pub loop-n-init : goal.loop-n-init
unfolding numbers
loop-n-init g c = (omega arith, omega arith)

pub loop-n-preserved : goal.loop-n-preserved
loop-n-preserved g c =
    let more = before-longer g.T.Decimal.number c.args.nums.now c.loop-n.n-index _ c.loop-n-test.true c.n-item.is in
    (omega (arith, more, c.loop-n.invariant.0, c.dec_length.ensures.0, ap (λ n. length (dec n)) c.number.ensures), omega arith)

pub returns : goal.returns
returns g c = (omega (arith, c.loop-n.invariant.0, ap length (before-end g.T.Decimal.number c.args.nums.now c.loop-n.n-index c.loop-n-test.false), long_ok (map g.T.Decimal.number c.args.nums.now)), omega arith)
