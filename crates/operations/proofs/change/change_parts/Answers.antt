-- `operations::change::change_parts` meets its contract. Assumes nothing.
use mathlib.Core.Path.{refl, ap, ◌∙◌}
use Rattle.model.specs.Step.{result_of}
use Rattle.operations.proofs.Arms.{not-make, as-left, make-inner}
use Rattle.store_head.proofs.Left.{lent-left, cells-left, sums-left, row_maps-left, column_maps-left, index-left, shape-left}
use Rattle.operations.proofs.Others.{changes-one}
use Rattle.operations.proofs.change.change_parts.Goals as goal

pub set_in-told-requires : goal.set_in-told-requires
set_in-told-requires c = c.requires.well_formed (not-make _ _ c.in-Set.is refl)

pub swap_rows_in-told-requires : goal.swap_rows_in-told-requires
swap_rows_in-told-requires c = c.requires.well_formed (not-make _ _ c.in-SwapR.is refl)

pub swap_columns_in-told-requires : goal.swap_columns_in-told-requires
swap_columns_in-told-requires c = c.requires.well_formed (not-make _ _ c.in-SwapC.is refl)

pub add_assign_rows_in-told-requires : goal.add_assign_rows_in-told-requires
add_assign_rows_in-told-requires c = c.requires.well_formed (not-make _ _ c.in-Add.is refl)

pub enable_column_access_acceleration_in-told-requires : goal.enable_column_access_acceleration_in-told-requires
enable_column_access_acceleration_in-told-requires c = c.requires.well_formed (not-make _ _ c.in-On.is refl)

pub disable_column_access_acceleration_in-told-requires : goal.disable_column_access_acceleration_in-told-requires
disable_column_access_acceleration_in-told-requires c = c.requires.well_formed (not-make _ _ c.in-Off.is refl)

pub hint_column_dense_and_frozen_in-told-requires : goal.hint_column_dense_and_frozen_in-told-requires
hint_column_dense_and_frozen_in-told-requires c = c.requires.well_formed (not-make _ _ c.in-Freeze.is refl)

pub resize_in-told-requires : goal.resize_in-told-requires
resize_in-told-requires c = c.requires.well_formed (not-make _ _ c.in-Resize.is refl)

pub returns-in-Make : goal.returns-in-Make
returns-in-Make c = as-left _ _ c.in-Make.is _ _ _ _ (lent-left _ _ c.new-told.ensures.same _ _ _ _ _ _ _ _ _ _ c.slots-1.given.1.1 c.counts-1.given.1.1 c.row_homes-1.given.1.1 c.row_logicals-1.given.1.1 c.column_homes-1.given.1.1 c.column_logicals-1.given.1.1 c.marks-1.given.1.1 c.starts-1.given.1.1 c.entries-1.given.1.1 c.words-1.given.1.1) (c.new-told.ensures.told ∙ ap (result_of _) (make-inner _ _))

pub returns-in-Set : goal.returns-in-Set
returns-in-Set c = as-left _ _ c.in-Set.is _ _ _ _ (cells-left _ _ c.set_in-told.ensures.same _ _ _ c.slots-in-Set-1.given.1.1 c.counts-in-Set-1.given.1.1 c.words-in-Set-1.given.1.1) c.set_in-told.ensures.told

pub returns-in-SwapR : goal.returns-in-SwapR
returns-in-SwapR c = as-left _ _ c.in-SwapR.is _ _ _ _ (row_maps-left _ _ c.swap_rows_in-told.ensures.same _ _ c.row_homes-in-SwapR-1.given.1.1 c.row_logicals-in-SwapR-1.given.1.1) c.swap_rows_in-told.ensures.told

pub returns-in-SwapC : goal.returns-in-SwapC
returns-in-SwapC c = as-left _ _ c.in-SwapC.is _ _ _ _ (column_maps-left _ _ c.swap_columns_in-told.ensures.same _ _ c.column_homes-in-SwapC-1.given.1.1 c.column_logicals-in-SwapC-1.given.1.1) c.swap_columns_in-told.ensures.told

pub returns-in-Add : goal.returns-in-Add
returns-in-Add c = as-left _ _ c.in-Add.is _ _ _ _ (sums-left _ _ c.add_assign_rows_in-told.ensures.same _ _ _ _ c.slots-in-Add-1.given.1.1 c.counts-in-Add-1.given.1.1 c.marks-in-Add-1.given.1.1 c.words-in-Add-1.given.1.1) c.add_assign_rows_in-told.ensures.told

pub returns-in-On : goal.returns-in-On
returns-in-On c = as-left _ _ c.in-On.is _ _ _ _ (index-left _ _ c.enable_column_access_acceleration_in-told.ensures.same _ _ _ c.marks-in-On-1.given.1.1 c.starts-in-On-1.given.1.1 c.entries-in-On-1.given.1.1) c.enable_column_access_acceleration_in-told.ensures.told

pub returns-in-Off : goal.returns-in-Off
returns-in-Off c = as-left _ _ c.in-Off.is _ _ _ _ (index-left _ _ c.disable_column_access_acceleration_in-told.ensures.same _ _ _ c.marks-in-Off-1.given.1.1 c.starts-in-Off-1.given.1.1 c.entries-in-Off-1.given.1.1) c.disable_column_access_acceleration_in-told.ensures.told

pub returns-in-Freeze : goal.returns-in-Freeze
returns-in-Freeze c = as-left _ _ c.in-Freeze.is _ _ _ _ (cells-left _ _ c.hint_column_dense_and_frozen_in-told.ensures.same _ _ _ c.slots-in-Freeze-1.given.1.1 c.counts-in-Freeze-1.given.1.1 c.words-in-Freeze-1.given.1.1) c.hint_column_dense_and_frozen_in-told.ensures.told

pub returns-in-Resize : goal.returns-in-Resize
returns-in-Resize c = as-left _ _ c.in-Resize.is _ _ _ _ (shape-left _ _ c.resize_in-told.ensures.same _ _ _ _ _ c.slots-in-Resize-1.given.1.1 c.counts-in-Resize-1.given.1.1 c.row_homes-in-Resize-1.given.1.1 c.row_logicals-in-Resize-1.given.1.1 c.words-in-Resize-1.given.1.1) c.resize_in-told.ensures.told

pub returns-in_default : goal.returns-in_default
returns-in_default c = absurd (changes-one c.args.op c.requires.op_value c.in_default.not-Make c.in_default.not-Set c.in_default.not-SwapR c.in_default.not-SwapC c.in_default.not-Add c.in_default.not-On c.in_default.not-Off c.in_default.not-Freeze c.in_default.not-Resize)
