-- `operations::asks::ask` meets its contract. Assumes nothing.
use mathlib.Core.Path.{refl}
use Rattle.table.specs.declared.Op.TheVariants as op
use Rattle.store_head.specs.Lent.{seen}
use Rattle.operations.proofs.Arms.{numbers, size, row_words, refuses, lists, refuses-list, words-few, get-still, count-still, words-still, size-still}
use Rattle.operations.proofs.Others.{asks-one}
use Rattle.operations.proofs.asks.ask.Goals as goal

pub returns-in_err-get_in-in-Get : goal.returns-in_err-get_in-in-Get
returns-in_err-get_in-in-Get c = refuses _ _ c.in-Get.is refl _ _ (get-still _ _) _ _ _ _ c.from_residual.ensures.1 c.in_err-get_in-in-Get.ensures

pub returns-in_ok-get_in-in-Get : goal.returns-in_ok-get_in-in-Get
returns-in_ok-get_in-in-Get c = numbers _ _ c.in-Get.is refl _ _ (get-still _ _) _ refl _ c.in_ok-get_in-in-Get.ensures

pub returns-in_err-count_ones_in-in-Count : goal.returns-in_err-count_ones_in-in-Count
returns-in_err-count_ones_in-in-Count c = refuses _ _ c.in-Count.is refl _ _ (count-still _ _) _ _ _ _ c.from_residual-in_err-count_ones_in-in-Count.ensures.1 c.in_err-count_ones_in-in-Count.ensures

pub returns-in_ok-count_ones_in-in-Count : goal.returns-in_ok-count_ones_in-in-Count
returns-in_ok-count_ones_in-in-Count c = numbers _ _ c.in-Count.is refl _ _ (count-still _ _) _ refl _ c.in_ok-count_ones_in-in-Count.ensures

pub returns-in_err-words-in-Words : goal.returns-in_err-words-in-Words
returns-in_err-words-in-Words c = refuses _ _ c.in-Words.is refl _ _ (words-still _ _) _ _ _ _ c.from_residual-in_err-words-in-Words.ensures.1 c.in_err-words-in-Words.ensures.told

pub returns-in_ok-words-in-Words : goal.returns-in_ok-words-in-Words
returns-in_ok-words-in-Words c = row_words c.args.op (op.Words c.in-Words.p) c.in-Words.is refl (seen c.args.store.now) c.args.answers.now (words-still c.in-Words.p (seen c.args.store.now)) refl _ _ c.in_ok-words-in-Words.ensures.place c.in_ok-words-in-Words.ensures.told

pub overflow_cast-result : goal.overflow_cast-result
overflow_cast-result c = record { fits = words-few _ c.requires.well_formed _ _ c.in_ok-words-in-Words.ensures.place }

pub returns-in_err-count-in-TailOnes : goal.returns-in_err-count-in-TailOnes
returns-in_err-count-in-TailOnes c = refuses-list _ _ c.in-TailOnes.is _ _ _ _ _ _ _ c.from_residual-in_err-count-in-TailOnes.ensures.1 c.in_err-count-in-TailOnes.ensures

pub returns-in_ok-count-in-TailOnes : goal.returns-in_ok-count-in-TailOnes
returns-in_ok-count-in-TailOnes c = lists _ _ c.in-TailOnes.is _ _ _ _ refl _ c.in_ok-count-in-TailOnes.ensures

pub returns-in_err-count-in-Iter : goal.returns-in_err-count-in-Iter
returns-in_err-count-in-Iter c = refuses-list _ _ c.in-Iter.is _ _ _ _ _ _ _ c.from_residual-in_err-count-in-Iter.ensures.1 c.in_err-count-in-Iter.ensures

pub returns-in_ok-count-in-Iter : goal.returns-in_ok-count-in-Iter
returns-in_ok-count-in-Iter c = lists _ _ c.in-Iter.is _ _ _ _ refl _ c.in_ok-count-in-Iter.ensures

pub returns-in_err-count-in-ColOnes : goal.returns-in_err-count-in-ColOnes
returns-in_err-count-in-ColOnes c = refuses-list _ _ c.in-ColOnes.is _ _ _ _ _ _ _ c.from_residual-in_err-count-in-ColOnes.ensures.1 c.in_err-count-in-ColOnes.ensures

pub returns-in_ok-count-in-ColOnes : goal.returns-in_ok-count-in-ColOnes
returns-in_ok-count-in-ColOnes c = lists _ _ c.in-ColOnes.is _ _ _ _ refl _ c.in_ok-count-in-ColOnes.ensures

pub returns-in-Size : goal.returns-in-Size
returns-in-Size c = size _ _ c.in-Size.is refl _ _ (size-still _) _ refl _ c.size_in.ensures

pub returns-in_default : goal.returns-in_default
returns-in_default c = absurd (asks-one c.args.op c.requires.op_value c.in_default.not-Get c.in_default.not-Count c.in_default.not-Words c.in_default.not-TailOnes c.in_default.not-Iter c.in_default.not-ColOnes c.in_default.not-Size)
