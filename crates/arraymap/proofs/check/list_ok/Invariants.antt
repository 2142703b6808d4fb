-- `arraymap::check::list_ok` meets its contract. Assumes nothing.
use Rattle.arraymap.proofs.Tests.{Rises}
use Rattle.arraymap.proofs.check.list_ok.Given as goal

abbrev pub invariant-loop-y : goal.invariant-loop-y
invariant-loop-y l = Rises l.list l.h l.lo l.y-index
