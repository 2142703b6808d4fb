-- `lines::Lines::put_numbers` meets its contract. Assumes nothing.
use Rattle.lines.specs.Wrote.{Wrote}
use Rattle.lines.proofs.Numbers.{before}
use Rattle.lines.proofs.Lines.put_numbers.Given as goal

abbrev pub invariant-loop-n : goal.invariant-loop-n
invariant-loop-n g l = Wrote l.initial.self l.self (before g.T.Decimal.number l.nums l.n-index)
