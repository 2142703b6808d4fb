-- `lines::digits::dec_length` meets its contract. Assumes nothing.
use Rattle.lines.proofs.digits.+dec_length.Given as goal

abbrev pub decreases-dec_length : goal.decreases-dec_length
decreases-dec_length l = l.n
