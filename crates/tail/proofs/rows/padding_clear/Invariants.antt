-- `padding_clear` meets its contract: the rows before y have clear padding. Assumes nothing.
use Prim.Native.Nat.{◌-◌}
use Rattle.tail.specs.Tail.{pad_clear}
use Rattle.laws.proofs.Passes.{Passed}
use Rattle.tail.proofs.rows.padding_clear.Given as goal

abbrev pub invariant-loop-y : goal.invariant-loop-y
invariant-loop-y l = Passed (pad_clear l.ws l.n) l.h l.y

abbrev pub decreases-loop-y : goal.decreases-loop-y
decreases-loop-y l = l.h - l.y
