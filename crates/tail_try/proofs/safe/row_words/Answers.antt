-- `row_words` meets its contract. Assumes nothing.
use native.Mathlib.Omega.{arith}
use Rattle.tail_try.proofs.Fits.{row_fits}
use Rattle.tail_try.proofs.safe.row_words.Goals as goal

pub row_words-requires : goal.row_words-requires
row_words-requires c = row_fits _ _ _ (omega arith) (omega arith) (omega arith)
