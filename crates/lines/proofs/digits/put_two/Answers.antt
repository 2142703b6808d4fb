-- `lines::digits::put_two` meets its contract. Assumes nothing.
use Rattle.lines.proofs.Writing.{both-put}
use Prim.Native.Nat.{◌+◌, ◌/◌, ◌%◌}
use lib.ListN.{length-set}
use native.Mathlib.Omega.{arith}
use Rattle.lines.proofs.digits.put_two.Goals as goal

pub bounds-out-at-2 : goal.bounds-out-at-2
bounds-out-at-2 c = simp length-set (omega (arith, c.requires.1))

pub returns : goal.returns
returns c = both-put c.args.out.now c.args.at (48 + c.args.n / 10) (48 + c.args.n % 10)
