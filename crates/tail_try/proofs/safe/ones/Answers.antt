-- `ones` meets its contract. Assumes nothing.
use native.Mathlib.Omega.{arith}
use Rattle.tail_try.proofs.Fits.{row_fits, can-list}
use Rattle.tail_try.proofs.safe.ones.Goals as goal

pub ones-done-requires : goal.ones-done-requires
ones-done-requires c = can-list _ _ _ _ _ (omega arith) (omega arith) (omega arith) (omega arith) (omega arith)

pub count-requires : goal.count-requires
count-requires c = record { small = omega arith; row = row_fits _ _ _ (omega arith) (omega arith) (omega arith) }
