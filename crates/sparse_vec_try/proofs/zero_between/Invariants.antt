-- `sparse_vec_try::zero_between` meets its contract. Assumes nothing.
use Rattle.sparse_vec_try.specs.Tests.{ZeroBetween}
use Rattle.sparse_vec_try.proofs.zero_between.Given as goal

abbrev pub invariant-loop-k : goal.invariant-loop-k
invariant-loop-k l = ZeroBetween l.slots l.from l.k
