-- `sparse_vec::passes::sum_length` meets its contract. Assumes nothing.
use Rattle.sparse_vec.proofs.Steps.{Counted}
use lib.ListN.{length}
use Prim.Native.Nat.{◌+◌, ◌-◌}
use Rattle.sparse_vec.proofs.passes.sum_length.Given as goal

abbrev pub invariant-loop-i : goal.invariant-loop-i
invariant-loop-i l = Counted l.a l.b l.i l.j l.n

abbrev pub decreases-loop-i : goal.decreases-loop-i
decreases-loop-i l = (length l.a - l.i) + (length l.b - l.j)
