-- `arraymap::check::lists_ok` meets its contract. Assumes nothing.
use Rattle.laws.proofs.Passes.{Passed}
use Rattle.arraymap.specs.Check.{list_ok}
use Rattle.arraymap.proofs.check.lists_ok.Given as goal

abbrev pub invariant-loop-z : goal.invariant-loop-z
invariant-loop-z l = Passed (list_ok l.starts l.entries l.h) l.m l.z
