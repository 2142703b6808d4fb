-- `lines_try::digits::ok` meets its contract. Assumes nothing.
use native.Mathlib.Omega.{arith}
use Rattle.lines.proofs.Writing.{long-none}
use Rattle.lines_try.proofs.digits.ok.Goals as goal

pub put_ok-requires : goal.put_ok-requires
put_ok-requires c = omega (arith, long-none)
