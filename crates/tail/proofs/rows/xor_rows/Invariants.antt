-- `xor_rows` meets its contract: the first i words of row dst are done. Assumes nothing.
use Prim.Native.Nat.{◌+◌, ◌-◌, ◌*◌, ◌≤◌}
use Rattle.tail.specs.Tail.{xored}
use Rattle.tail.proofs.Runs.{Between}
use Rattle.tail.proofs.rows.xor_rows.Given as goal

abbrev pub invariant-loop-i : goal.invariant-loop-i
invariant-loop-i l = (l.i ≤ l.s) × Between l.initial.ws (xored l.initial.ws l.s l.dst l.src) (l.dst * l.s) (l.dst * l.s + l.i) l.ws

abbrev pub decreases-loop-i : goal.decreases-loop-i
decreases-loop-i l = l.s - l.i
