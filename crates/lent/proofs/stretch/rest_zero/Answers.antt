-- `lent::stretch::rest_zero` meets its contract. Assumes nothing.
use native.Mathlib.Omega.{arith}
use Rattle.laws.specs.Tests.{zero_from}
use Rattle.lent.proofs.Scanning.{none-after}
use Rattle.lent.proofs.Numbers.{nums-length}
use Rattle.lent.proofs.stretch.rest_zero.Goals as goal

pub returns-then-s-from : goal.returns-then-s-from
returns-then-s-from g c = let n = g.T.Number in none-after _ _ (omega (arith, c.if-s-from.true, nums-length n.num n.nums n.nums_law c.args.s.now))

pub returns : goal.returns
unfolding zero_from
returns g c = let n = g.T.Number in rw (nums-length n.num n.nums n.nums_law c.args.s.now) c.stretch_zero.ensures
