-- `lines::lists::list_length` meets its contract. Assumes nothing.
use Rattle.std.proofs.Common.{◌≡◌, ◌+◌, ◌*◌, ◌≤◌, length}
use Rattle.lines.proofs.Numbers.{before}
use Rattle.lines.proofs.lists.list_length.Given as goal

abbrev pub invariant-loop-n : goal.invariant-loop-n
invariant-loop-n g l = (l.long ≡ 3 + length (before g.T.Decimal.number l.nums l.n-index)) × (l.long ≤ 3 + 21 * l.n-index)
