-- `ones` meets its contract: the ones of the words before w are listed. Assumes nothing.
use Rattle.tail.proofs.WordOnes.{Writing}
use Rattle.tail.proofs.list.ones.Given as goal

abbrev pub invariant-loop-w : goal.invariant-loop-w
invariant-loop-w l = Writing l.ws l.n l.y l.base l.initial.answers l.answers l.done l.first l.shift l.w-index
