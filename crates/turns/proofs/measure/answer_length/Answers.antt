-- `turns::measure::answer_length` meets its contract. Assumes nothing.
use Rattle.turns.proofs.Measuring.{as_line, as-free, refused-line, asked-line, asked-refused, seen-free, seen-line, answer-line, done-line, words-few, same-list}
use mathlib.Core.Path.{refl, sym}
use Rattle.store_head.specs.Lent.{seen}
use Rattle.operations.proofs.Others.{no-question-told}
use Rattle.turns.proofs.measure.answer_length.Goals as goal

pub returns-in_err-refusal : goal.returns-in_err-refusal
returns-in_err-refusal c = refused-line _ _ _ _ c.from_residual.ensures.1 c.in_err-refusal.ensures

pub get_in-requires : goal.get_in-requires
get_in-requires c = c.requires

pub count_ones_in-requires : goal.count_ones_in-requires
count_ones_in-requires c = c.requires

pub get_sub_row_in-requires : goal.get_sub_row_in-requires
get_sub_row_in-requires c = c.requires

pub tail_line-requires : goal.tail_line-requires
tail_line-requires c = record { well_formed = c.requires; value = seen-free _ _ c.in-TailOnes.is _ _ refl _ c.in_ok-refusal.ensures }

pub iter_line-requires : goal.iter_line-requires
iter_line-requires c = record { well_formed = c.requires; value = seen-free _ _ c.in-Iter.is _ _ refl _ c.in_ok-refusal.ensures }

pub column_line-requires : goal.column_line-requires
column_line-requires c = record { well_formed = c.requires; value = seen-free _ _ c.in-ColOnes.is _ _ refl _ c.in_ok-refusal.ensures }

pub list_length-requires : goal.list_length-requires
list_length-requires c = words-few (seen c.args.store.now) c.requires _ _ c.in_ok-words-in-Words.ensures.place

pub returns-in_err-get_in-in-Get : goal.returns-in_err-get_in-in-Get
returns-in_err-get_in-in-Get c = asked-refused _ _ c.in-Get.is refl _ _ refl _ _ _ c.from_residual-in_err-get_in-in-Get.ensures.1 c.in_err-get_in-in-Get.ensures

pub returns-in_err-n-in-Count : goal.returns-in_err-n-in-Count
returns-in_err-n-in-Count c = asked-refused _ _ c.in-Count.is refl _ _ refl _ _ _ c.from_residual-in_err-n-in-Count.ensures.1 c.in_err-n-in-Count.ensures

pub returns-in_err-words-in-Words : goal.returns-in_err-words-in-Words
returns-in_err-words-in-Words c = asked-refused _ _ c.in-Words.is refl _ _ refl _ _ _ c.from_residual-in_err-words-in-Words.ensures.1 c.in_err-words-in-Words.ensures.told

pub returns-in_ok-get_in-in-Get : goal.returns-in_ok-get_in-in-Get
returns-in_ok-get_in-in-Get c = asked-line _ _ c.in-Get.is refl _ _ refl _ _ c.in_ok-get_in-in-Get.ensures _ c.number_length.ensures

pub returns-in_ok-n-in-Count : goal.returns-in_ok-n-in-Count
returns-in_ok-n-in-Count c = asked-line _ _ c.in-Count.is refl _ _ refl _ _ c.in_ok-n-in-Count.ensures _ c.number_length-in-Count.ensures

pub returns-in_ok-words-in-Words : goal.returns-in_ok-words-in-Words
returns-in_ok-words-in-Words c = asked-line _ _ c.in-Words.is refl _ _ refl _ _ c.in_ok-words-in-Words.ensures.told _ (same-list _ _ c.list_length.ensures.0)

pub returns-in-TailOnes : goal.returns-in-TailOnes
returns-in-TailOnes c = seen-line _ _ c.in-TailOnes.is _ _ refl _ _ c.tail_line.ensures

pub returns-in-Iter : goal.returns-in-Iter
returns-in-Iter c = seen-line _ _ c.in-Iter.is _ _ refl _ _ c.iter_line.ensures

pub returns-in-ColOnes : goal.returns-in-ColOnes
returns-in-ColOnes c = seen-line _ _ c.in-ColOnes.is _ _ refl _ _ c.column_line.ensures

pub returns-in-Size : goal.returns-in-Size
returns-in-Size c = as_line _ _ c.in-Size.is _ _ (answer-line _ _ (as-free _ _ c.in-Size.is _ c.in_ok-refusal.ensures) _ refl _ c.three_length.ensures)

pub returns-in_default : goal.returns-in_default
returns-in_default c = done-line _ _ c.in_ok-refusal.ensures (sym (no-question-told c.args.op c.in_default.not-Get c.in_default.not-Count c.in_default.not-Words c.in_default.not-TailOnes c.in_default.not-Iter c.in_default.not-ColOnes c.in_default.not-Size))
