-- `permutation::any_map::leads_back` meets its contract. Assumes nothing.
use Rattle.permutation.proofs.Inverse.{Looking}
use Rattle.permutation.proofs.any_map.leads_back.Given as goal

abbrev pub invariant-loop-i : goal.invariant-loop-i
invariant-loop-i g l = let n = g.T.Number in Looking l.k (n.nums l.f) (n.nums l.g) l.i
