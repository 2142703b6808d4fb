-- `get` meets its contract. Assumes nothing.
use native.Mathlib.Omega.{arith}
use Rattle.tail_try.proofs.Fits.{row_fits}
use Rattle.tail_try.proofs.safe.get.Goals as goal

pub get-requires : goal.get-requires
get-requires c = record { small = omega arith; column = omega arith; row = row_fits _ _ _ (omega arith) (omega arith) (omega arith) }
