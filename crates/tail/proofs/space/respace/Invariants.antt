-- `respace` meets its contract: the rows from y on are re-spaced. Assumes nothing.
use Prim.Native.Nat.{◌+◌, ◌*◌}
use Rattle.tail.specs.Runs.{spaced}
use Rattle.tail.proofs.Runs.{Between}
use Rattle.tail.proofs.space.respace.Given as goal

abbrev pub invariant-loop-y : goal.invariant-loop-y
invariant-loop-y l = Between l.initial.ws (spaced l.initial.ws l.s l.h) (l.y * (l.s + 1)) (l.h * (l.s + 1)) l.ws
