-- `lent::stretch::stretch_zero` meets its contract. Assumes nothing.
use Rattle.lent.proofs.Scanning.{Scanning}
use Rattle.lent.proofs.stretch.stretch_zero.Given as goal

abbrev pub invariant-loop-i : goal.invariant-loop-i
invariant-loop-i g l = Scanning (g.T.Number.nums l.s) l.from l.i l.zero
