-- `list_word` meets its contract: the ones of w are still to be listed, from place next on. Assumes nothing.
use Prim.Native.Nat.{◌^◌, ◌<◌}
use Rattle.tail.specs.Ones.{word_ones, Fits32}
use Rattle.tail.proofs.WordOnes.{Listing}
use Rattle.tail.proofs.list.list_word.Given as goal

abbrev pub invariant-loop-w : goal.invariant-loop-w
invariant-loop-w l = (l.w < 2 ^ 64) × Fits32 (word_ones l.w l.base) × Listing l.initial.answers l.at (word_ones l.word l.base) l.answers l.next (word_ones l.w l.base)

abbrev pub decreases-loop-w : goal.decreases-loop-w
decreases-loop-w l = l.w
