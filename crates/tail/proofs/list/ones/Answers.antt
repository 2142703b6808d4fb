-- `ones` meets its contract: the ones of the words before w are listed. Assumes nothing.
use Prim.Native.Nat.{◌<◌}
use native.Mathlib.Omega.{arith}
use Rattle.tail.proofs.WordOnes.{writing_start, writing-can, writing_more, writing-wide, writing-end, row-long, row-word}
use Rattle.tail.proofs.list.ones.Goals.{In-loop-w}
use Rattle.tail.proofs.list.ones.Goals as goal

-- a turn's word is one of the row's
inside : (c : In-loop-w) → c.loop-w.w-index < c.words_for.result
inside c = omega (arith, row-long _ _ _ _ _ c.requires.row c.words_for.ensures c.row_words-w-items.ensures.part)

pub loop-w-init : goal.loop-w-init
loop-w-init c = writing_start _ _ _ _ _ _ c.padding_of-shift.ensures

pub list_word-done-requires : goal.list_word-done-requires
list_word-done-requires c =
    let word = row-word _ _ _ _ _ c.requires.row c.words_for.ensures c.row_words-w-items.ensures.part _ c.loop-w-test.true in
    rw (← word) (writing-can _ _ _ _ _ _ _ _ _ _ _ c.loop-w.invariant c.requires c.words_for.ensures (inside (goal.at.list_word-done-requires c).In-loop-w) (c.type_inv.ws _).fits)

pub overflow_add-first : goal.overflow_add-first
overflow_add-first c =
    omega (arith, writing-wide _ _ _ _ _ _ _ _ _ _ _ c.loop-w.invariant c.requires c.words_for.ensures (inside (goal.at.overflow_add-first c).In-loop-w) (c.type_inv.ws _).fits)

pub loop-w-preserved : goal.loop-w-preserved
loop-w-preserved c =
    let word = row-word _ _ _ _ _ c.requires.row c.words_for.ensures c.row_words-w-items.ensures.part _ c.loop-w-test.true in
    writing_more _ _ _ _ _ _ _ _ _ _ _ c.loop-w.invariant c.requires c.words_for.ensures (inside (goal.at.loop-w-preserved c).In-loop-w) (c.type_inv.ws _).fits _ _
    (rw word c.list_word-done.ensures)

pub returns : goal.returns
returns c =
    let long = row-long _ _ _ _ _ c.requires.row c.words_for.ensures c.row_words-w-items.ensures.part in
    writing-end _ _ _ _ _ _ _ _ _ _ _ c.loop-w.invariant c.requires c.words_for.ensures (omega arith)

pub overflow_shr-w : goal.overflow_shr-w
overflow_shr-w c = omega arith

pub overflow_sub-first : goal.overflow_sub-first
overflow_sub-first c = omega arith
