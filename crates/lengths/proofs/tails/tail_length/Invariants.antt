-- `lengths::tails::tail_length` meets its contract. Assumes nothing.
use Rattle.lengths.proofs.Words.{TailSoFar}
use Rattle.lengths.proofs.tails.tail_length.Given as goal

abbrev pub invariant-loop-word : goal.invariant-loop-word
invariant-loop-word l = TailSoFar l.ws l.n l.y l.base l.long l.first l.shift l.word-index
