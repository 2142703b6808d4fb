-- `count` meets its contract: the words before w are counted. Assumes nothing.
use Prim.Native.Nat.{◌+◌, ◌/◌, ◌^◌}
use native.Mathlib.Omega.{arith}
use lib.Count.{ones}
use lib.ListN.{get_or}
use Rattle.tail.proofs.WordOnes.{Counting, counting-start, counting_more, counting-most, counting-end, row-long, row-word}
use Rattle.tail.proofs.list.count.Goals.{In-loop-w}
use Rattle.tail.proofs.list.count.Goals as goal

-- a turn's word counted
more : (c : In-loop-w)
    → let l = c.loop-w in let a = c.args in let r = c.row_words-w-items.result.now in
    Counting a.ws.now a.n a.y (l.sum + ones (get_or r l.w-index 0 / 2 ^ l.shift)) 0 (l.w-index + 1)
more c =
    let a = c.args in let l = c.loop-w in let s = c.words_for in let r = c.row_words-w-items in
    let long = row-long a.ws.now r.result.now a.n a.y s.result c.requires.row s.ensures r.ensures.part in
    let word = row-word a.ws.now r.result.now a.n a.y s.result c.requires.row s.ensures r.ensures.part l.w-index c.loop-w-test.true in
    rw (← word) (counting_more a.ws.now a.n a.y s.result l.sum l.shift l.w-index l.invariant s.ensures (omega arith) (c.type_inv.ws _).fits)

pub loop-w-init : goal.loop-w-init
loop-w-init c = counting-start _ _ _ _ c.padding_of-shift.ensures

pub loop-w-preserved : goal.loop-w-preserved
loop-w-preserved c = more (goal.at.loop-w-preserved c).In-loop-w

pub returns : goal.returns
returns c =
    let long = row-long _ _ _ _ _ c.requires.row c.words_for.ensures c.row_words-w-items.ensures.part in
    counting-end _ _ _ _ _ _ _ c.loop-w.invariant c.words_for.ensures (omega arith)

pub overflow_shr-sum : goal.overflow_shr-sum
overflow_shr-sum c = omega arith

pub overflow_add-sum : goal.overflow_add-sum
overflow_add-sum c = omega (arith, counting-most _ _ _ _ _ _ (more (goal.at.overflow_add-sum c).In-loop-w))
