-- `operations::refuse::refusal` meets its contract. Assumes nothing.
use mathlib.Core.Path.{refl}
use Rattle.changes.proofs.Swaps.{rows-by-head, columns-by-head}
use Rattle.reshape.proofs.Resizes.{by-head}
use Rattle.operations.proofs.Arms.{not-make}
use Rattle.operations.proofs.Numbers.{beside-refused, asked-refused, asked-free, free-of-two}
use Rattle.operations.proofs.refuse.refusal.Goals as goal

pub refuse_set-requires : goal.refuse_set-requires
refuse_set-requires c = c.requires (not-make _ _ c.in-Set.is refl)

pub refuse_add-requires : goal.refuse_add-requires
refuse_add-requires c = c.requires (not-make _ _ c.in-Add.is refl)

pub refuse_on-requires : goal.refuse_on-requires
refuse_on-requires c = c.requires (not-make _ _ c.in-On.is refl)

pub refuse_freeze-requires : goal.refuse_freeze-requires
refuse_freeze-requires c = c.requires (not-make _ _ c.in-Freeze.is refl)

pub refuse_swap_columns-requires : goal.refuse_swap_columns-requires
refuse_swap_columns-requires c = (c.requires (not-make _ _ c.in-SwapC.is refl)).limits.tail

pub returns-in-Make : goal.returns-in-Make
returns-in-Make c = beside-refused _ _ c.in-Make.is refl _ _ _ c.refuse_make.ensures

pub returns-in-Set : goal.returns-in-Set
returns-in-Set c = beside-refused _ _ c.in-Set.is refl _ _ _ c.refuse_set.ensures

pub returns-in-Add : goal.returns-in-Add
returns-in-Add c = beside-refused _ _ c.in-Add.is refl _ _ _ c.refuse_add.ensures

pub returns-in-On : goal.returns-in-On
returns-in-On c = beside-refused _ _ c.in-On.is refl _ _ _ c.refuse_on.ensures

pub returns-in-Freeze : goal.returns-in-Freeze
returns-in-Freeze c = beside-refused _ _ c.in-Freeze.is refl _ _ _ c.refuse_freeze.ensures

pub returns-in-SwapR : goal.returns-in-SwapR
returns-in-SwapR c = beside-refused _ _ c.in-SwapR.is refl _ _ _ (rows-by-head _ _ _ c.refuse_swap_rows.ensures)

pub returns-in-SwapC : goal.returns-in-SwapC
returns-in-SwapC c = beside-refused _ _ c.in-SwapC.is refl _ _ _ (columns-by-head _ _ _ c.refuse_swap_columns.ensures)

pub returns-in-Resize : goal.returns-in-Resize
returns-in-Resize c = beside-refused _ _ c.in-Resize.is refl _ _ _ (by-head _ _ refl _ _ c.refuse_resize.ensures)

pub returns-in-Off : goal.returns-in-Off
returns-in-Off c = free-of-two _ c.in-Off.is _ _

pub returns-in_err-get_in-in-Get : goal.returns-in_err-get_in-in-Get
returns-in_err-get_in-in-Get c = asked-refused _ _ c.in-Get.is refl _ _ refl _ _ _ c.from_residual.ensures.1 c.in_err-get_in-in-Get.ensures

pub returns-in_ok-get_in-in-Get : goal.returns-in_ok-get_in-in-Get
returns-in_ok-get_in-in-Get c = asked-free _ _ c.in-Get.is refl _ _ refl _ _ c.in_ok-get_in-in-Get.ensures

pub returns-in_err-count_ones_in-in-Count : goal.returns-in_err-count_ones_in-in-Count
returns-in_err-count_ones_in-in-Count c = asked-refused _ _ c.in-Count.is refl _ _ refl _ _ _ c.from_residual-in_err-count_ones_in-in-Count.ensures.1 c.in_err-count_ones_in-in-Count.ensures

pub returns-in_ok-count_ones_in-in-Count : goal.returns-in_ok-count_ones_in-in-Count
returns-in_ok-count_ones_in-in-Count c = asked-free _ _ c.in-Count.is refl _ _ refl _ _ c.in_ok-count_ones_in-in-Count.ensures

pub returns-in_err-get_sub_row_in-in-Words : goal.returns-in_err-get_sub_row_in-in-Words
returns-in_err-get_sub_row_in-in-Words c = asked-refused _ _ c.in-Words.is refl _ _ refl _ _ _ c.from_residual-in_err-get_sub_row_in-in-Words.ensures.1 c.in_err-get_sub_row_in-in-Words.ensures.told

pub returns-in_ok-get_sub_row_in-in-Words : goal.returns-in_ok-get_sub_row_in-in-Words
returns-in_ok-get_sub_row_in-in-Words c = asked-free _ _ c.in-Words.is refl _ _ refl _ _ c.in_ok-get_sub_row_in-in-Words.ensures.told
