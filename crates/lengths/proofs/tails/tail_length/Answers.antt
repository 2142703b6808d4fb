-- `lengths::tails::tail_length` meets its contract. Assumes nothing.
use native.Mathlib.Omega.{arith}
use Prim.Native.Nat.{◌*◌}
use Rattle.lengths.proofs.Words.{part-word, tail-start, tail_more, tail-wide, tail-short, tail-done}
use Rattle.lengths.proofs.tails.tail_length.Goals as goal

pub overflow_mul-row : goal.overflow_mul-row
overflow_mul-row c = rw c.words_for-s.ensures (omega arith)

pub loop-word-init : goal.loop-word-init
loop-word-init c = tail-start _ _ _ _ _ c.padding_of-shift.ensures

pub overflow_cast-shift : goal.overflow_cast-shift
overflow_cast-shift c = omega arith

pub loop-word-preserved : goal.loop-word-preserved
loop-word-preserved c = tail_more _ _ _ _ _ _ _ _ c.loop-word.invariant _ c.words_for-s.ensures (omega arith) _ (c.type_inv.ws _).fits (rw (part-word c.args.ws.now (c.args.y * c.words_for-s.result) c.words_for-s.result c.loop-word.word-index (omega arith)) at c.word_length-long.ensures)

pub overflow_add-long : goal.overflow_add-long
overflow_add-long c = omega (arith, tail-short _ _ _ _ _ _ _ _ (tail_more _ _ _ _ _ _ _ _ c.loop-word.invariant _ c.words_for-s.ensures (omega arith) _ (c.type_inv.ws _).fits (rw (part-word c.args.ws.now (c.args.y * c.words_for-s.result) c.words_for-s.result c.loop-word.word-index (omega arith)) at c.word_length-long.ensures)) c.requires.small)

pub overflow_add-first : goal.overflow_add-first
overflow_add-first c = omega (arith, tail-wide _ _ _ _ _ _ _ _ c.loop-word.invariant _ c.words_for-s.ensures (omega arith) c.requires.wide)

pub returns : goal.returns
returns c = tail-done _ _ _ _ _ _ _ _ c.loop-word.invariant _ c.words_for-s.ensures (omega arith)
