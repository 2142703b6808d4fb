-- `reshape::resize::drop_columns` meets its contract. Assumes nothing.
use native.Mathlib.Omega.{arith}
use Rattle.reshape.proofs.Shrinks.{all_same, then_same, cut-start, cut-ok, cut_low, cut-next, words-in, words-low, narrowed}
use Rattle.reshape.proofs.resize.drop_columns.Goals as goal

pub loop-y-init : goal.loop-y-init
loop-y-init c = (cut-start _ _, all_same _)

pub keep_row-requires : goal.keep_row-requires
keep_row-requires c = record { well_formed = cut-ok _ c.requires.well_formed c.requires.off _ _ _ (omega arith) c.loop-y.invariant.0; y_low = cut_low _ c.requires.well_formed c.requires.off _ _ _ (omega arith) c.loop-y.invariant.0 (omega arith) }

pub loop-y-preserved : goal.loop-y-preserved
loop-y-preserved c = (cut-next _ c.requires.well_formed c.requires.off _ _ _ (omega arith) c.loop-y.invariant.0 _ c.keep_row.ensures.told, then_same _ _ _ c.loop-y.invariant.1 c.keep_row.ensures.same)

pub returns-clause-told : goal.returns-clause-told
returns-clause-told c = narrowed _ c.requires.well_formed c.requires.off _ _ _ (omega arith) c.loop-y.invariant.0 (omega arith) _ c.words_for.ensures _ c.clear.ensures

pub overflow_mul-h : goal.overflow_mul-h
overflow_mul-h c = omega (arith, words-low _ c.requires.well_formed c.requires.off _ c.words_for.ensures)

pub clear-requires : goal.clear-requires
clear-requires c = words-in _ c.requires.well_formed c.requires.off _ _ _ (omega arith) c.loop-y.invariant.0 _ c.words_for.ensures
