-- `lent::stretch::rest_zero_in_steps` meets its contract. Assumes nothing.
use mathlib.Core.Bool.{true}
use Prim.Native.Nat.{◌-◌}
use lib.ListN.{length}
use Rattle.lent.proofs.Scanning.{Scanning}
use Rattle.lent.proofs.stretch.rest_zero_in_steps.Given as goal

abbrev pub invariant-loop-at : goal.invariant-loop-at
invariant-loop-at g l = Scanning (g.T.Number.nums l.s) l.from l.at true

abbrev pub decreases-loop-at : goal.decreases-loop-at
decreases-loop-at g l = length l.s - l.at
