-- `lengths::tails::word_length` meets its contract. Assumes nothing.
use Rattle.lengths.proofs.Words.{WordSoFar}
use Rattle.lengths.proofs.tails.word_length.Given as goal

abbrev pub invariant-loop-w : goal.invariant-loop-w
invariant-loop-w l = WordSoFar l.word l.base l.w l.long

abbrev pub decreases-loop-w : goal.decreases-loop-w
decreases-loop-w l = l.w
