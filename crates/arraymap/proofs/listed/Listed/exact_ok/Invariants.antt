-- `arraymap::listed::Listed::exact_ok` meets its contract. Assumes nothing.
use Rattle.laws.specs.Parts.{row_of}
use Rattle.laws.proofs.Passes.{Passed}
use Rattle.arraymap.specs.Check.{exact_at}
use Rattle.arraymap.proofs.listed.Listed.exact_ok.Given as goal

abbrev pub invariant-loop-z : goal.invariant-loop-z
invariant-loop-z l = Passed (exact_at (row_of l.self.rows.slots.now l.self.rows.counts.now l.self.rows.k) l.self.starts.now l.self.entries.now l.logical l.marks l.edge) l.self.rows.m l.z
