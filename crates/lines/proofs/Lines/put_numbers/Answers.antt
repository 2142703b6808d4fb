-- `lines::Lines::put_numbers` meets its contract. Assumes nothing.
use Rattle.std.proofs.Common.{◌+◌, length, ap, arith}
use Rattle.lines.specs.Line.{dec}
use Rattle.lines.proofs.Numbers.{before-end, before-short, before-more, before-longer}
use Rattle.lines.proofs.Written.{nothing-wrote, long-after, both-wrote}
use Rattle.lines.proofs.Lines.put_numbers.Goals as goal

pub loop-n-init : goal.loop-n-init
unfolding Rattle.lines.specs.Line.numbers
loop-n-init g c = nothing-wrote c.args.self.now

pub put_spaced-requires : goal.put_spaced-requires
put_spaced-requires g c =
    let f = g.T.Decimal.number in
    omega (arith, long-after c.loop-n.invariant, c.loop-n.invariant.used, before-longer f c.args.nums.now c.loop-n.n-index _ c.loop-n-test.true c.n-item.is, before-short f c.args.nums.now (c.loop-n.n-index + 1), ap (λ n. length (dec n)) c.number.ensures)

pub loop-n-preserved : goal.loop-n-preserved
loop-n-preserved g c =
    rw (before-more g.T.Decimal.number c.args.nums.now c.loop-n.n-index _ c.loop-n-test.true c.n-item.is, ← c.number.ensures) (both-wrote c.loop-n.invariant c.put_spaced.ensures)

pub returns : goal.returns
returns g c = rw (before-end g.T.Decimal.number c.args.nums.now c.loop-n.n-index c.loop-n-test.false) at c.loop-n.invariant
