-- `lines_try::digits::number` meets its contract. Assumes nothing.
use native.Mathlib.Omega.{arith}
use Rattle.lines.proofs.Writing.{long-one}
use Rattle.lines_try.proofs.digits.number.Goals as goal

pub put_number-requires : goal.put_number-requires
put_number-requires c = omega (arith, long-one c.args.x)
