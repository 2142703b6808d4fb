-- `lengths::tails::word_length` meets its contract. Assumes nothing.
use Prim.Native.Nat.{◌-◌}
use native.Mathlib.Omega.{arith}
use lib.Bits.{and_le_r}
use lib.Count.{trailing_le}
use Rattle.lengths.proofs.Words.{word-start, word_more, word-short, word-done}
use Rattle.lengths.proofs.tails.word_length.Goals as goal

pub loop-w-init : goal.loop-w-init
loop-w-init c = word-start _ _ (omega arith)

pub overflow_cast-w : goal.overflow_cast-w
overflow_cast-w c = omega (arith, trailing_le 64 c.loop-w.w)

pub overflow_add-base : goal.overflow_add-base
overflow_add-base c = omega (arith, trailing_le 64 c.loop-w.w)

pub loop-w-preserved : goal.loop-w-preserved
loop-w-preserved c = word_more _ _ _ _ c.loop-w.invariant _ (omega arith) c.number_length-long.ensures

pub overflow_add-long : goal.overflow_add-long
overflow_add-long c = omega (arith, word-short _ _ _ _ (word_more _ _ _ _ c.loop-w.invariant _ (omega arith) c.number_length-long.ensures))

pub loop-w-smaller : goal.loop-w-smaller
loop-w-smaller c = omega (arith, and_le_r c.loop-w.w (c.loop-w.w - 1))

pub returns : goal.returns
returns c = word-done _ _ _ _ c.loop-w.invariant (omega arith)
