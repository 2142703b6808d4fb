-- `arraymap::listed::Listed::row_listed` meets its contract. Assumes nothing.
use lib.ListN.{length}
use Rattle.laws.proofs.Passes.{Passed}
use Rattle.arraymap.specs.Check.{listed_at}
use Rattle.arraymap.proofs.listed.Listed.row_listed.Given as goal

abbrev pub invariant-loop-z : goal.invariant-loop-z
invariant-loop-z l = Passed (listed_at l.self.starts.now l.self.entries.now l.z-items l.y) (length l.z-items) l.z-index
