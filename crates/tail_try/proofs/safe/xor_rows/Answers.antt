-- `xor_rows` meets its contract. Assumes nothing.
use native.Mathlib.Omega.{arith}
use Rattle.tail_try.proofs.Fits.{row_fits}
use Rattle.tail_try.proofs.safe.xor_rows.Goals as goal

pub xor_rows-requires : goal.xor_rows-requires
xor_rows-requires c = record { differ = c.if-dst-src.true; to = row_fits _ _ _ (omega arith) (omega arith) (omega arith); from = row_fits _ _ _ (omega arith) (omega arith) (omega arith) }
