-- `grow` meets its contract. Assumes nothing.
use native.Mathlib.Omega.{arith}
use Rattle.tail_try.proofs.Fits.{can-grow}
use Rattle.tail_try.proofs.safe.grow.Goals as goal

pub grow-requires : goal.grow-requires
grow-requires c = can-grow _ _ _ (omega arith) (omega arith) (omega arith)
