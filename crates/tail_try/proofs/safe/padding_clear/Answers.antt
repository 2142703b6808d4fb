-- `padding_clear` meets its contract. Assumes nothing.
use native.Mathlib.Omega.{arith}
use Rattle.tail_try.proofs.Fits.{tail-rows}
use Rattle.tail_try.proofs.safe.padding_clear.Goals as goal

pub padding_clear-requires : goal.padding_clear-requires
padding_clear-requires c = tail-rows _ _ _ (omega arith) (omega arith) (omega arith)
