-- `arraymap::listed::Listed::list_exact` meets its contract. Assumes nothing.
use lib.ListN.{length}
use Rattle.laws.specs.Parts.{row_of}
use Rattle.laws.proofs.Passes.{Passed}
use Rattle.arraymap.specs.Check.{holds_at}
use Rattle.arraymap.proofs.listed.Listed.list_exact.Given as goal

abbrev pub invariant-loop-y : goal.invariant-loop-y
invariant-loop-y l = Passed (holds_at (row_of l.self.rows.slots.now l.self.rows.counts.now l.self.rows.k) l.z l.y-items) (length l.y-items) l.y-index
