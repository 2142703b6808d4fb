-- `lines_try::digits::three` meets its contract. Assumes nothing.
use native.Mathlib.Omega.{arith}
use Rattle.lines.proofs.Writing.{long-three}
use Rattle.lines_try.proofs.digits.three.Goals as goal

pub put_three-requires : goal.put_three-requires
put_three-requires c = omega (arith, long-three c.args.a c.args.b c.args.c)
