-- `permutation::any_map::make_identity` meets its contract. Assumes nothing.
use lib.ListN.{length}
use Rattle.laws.proofs.Filling.{Filling}
use Rattle.permutation.specs.Maps.{identity}
use Rattle.permutation.proofs.any_map.make_identity.Given as goal

abbrev pub invariant-loop-i : goal.invariant-loop-i
invariant-loop-i g l = let n = g.T.Number in Filling (identity (length (n.nums l.initial.map)) l.k) (n.nums l.initial.map) (n.nums l.map) l.i
