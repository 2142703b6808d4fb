-- `count` meets its contract: the words before w are counted. Assumes nothing.
use Rattle.tail.proofs.WordOnes.{Counting}
use Rattle.tail.proofs.list.count.Given as goal

abbrev pub invariant-loop-w : goal.invariant-loop-w
invariant-loop-w l = Counting l.ws l.n l.y l.sum l.shift l.w-index
