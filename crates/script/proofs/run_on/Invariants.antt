-- `script::run_on` meets its contract. Assumes nothing.
use mathlib.Core.Path.{◌≡◌}
use Prim.Native.Nat.{◌-◌}
use lib.ListN.{length}
use Rattle.store_head.specs.Lent.{lent, full_of, SameSlices}
use Rattle.script.proofs.Turns.{Running}
use Rattle.script.proofs.run_on.Given as goal

abbrev pub invariant-loop-next : goal.invariant-loop-next
invariant-loop-next l =
    Running l.records l.initial.lines.used l.initial.lines.bytes.now (full_of (lent l.initial.store) l.initial.answers) l.done l.lines.used l.lines.bytes.now (full_of (lent l.store) l.answers)
    × (SameSlices l.initial.store l.store × (l.lines.bytes.ghost_name ≡ l.initial.lines.bytes.ghost_name))

abbrev pub decreases-loop-next : goal.decreases-loop-next
decreases-loop-next l = length l.records - l.done
