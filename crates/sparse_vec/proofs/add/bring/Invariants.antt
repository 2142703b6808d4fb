-- `sparse_vec::add::bring` meets its contract. Assumes nothing.
use Rattle.sparse_vec.proofs.Filled.{Filled}
use Rattle.laws.specs.Parts.{part}
use Rattle.sparse_vec.proofs.add.bring.Given as goal

abbrev pub invariant-loop-j : goal.invariant-loop-j
invariant-loop-j l = Filled l.initial.slots l.slots l.to l.k (part l.initial.slots l.from l.k) 0 l.j
