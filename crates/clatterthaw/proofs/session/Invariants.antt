-- `clatterthaw::session` meets its contract: the bytes that are there are within the buffer, which keeps its length. Assumes nothing.
use Prim.Native.Nat.{◌≤◌}
use lib.ListN.{length}
use Rattle.clatterthaw.proofs.session.Given as goal

abbrev pub invariant-loop : goal.invariant-loop
invariant-loop l = l.have ≤ length l.buf
