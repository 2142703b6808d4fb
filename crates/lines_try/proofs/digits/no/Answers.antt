-- `lines_try::digits::no` meets its contract. Assumes nothing.
use native.Mathlib.Omega.{arith}
use Rattle.lines.proofs.Writing.{long-no}
use Rattle.lines_try.proofs.digits.no.Goals as goal

pub put_no-requires : goal.put_no-requires
put_no-requires c = omega (arith, long-no c.args.k)
