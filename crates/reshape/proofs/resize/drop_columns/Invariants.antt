-- `reshape::resize::drop_columns` meets its contract. Assumes nothing.
use Rattle.std.specs.Prelude.{◌≡◌}
use Rattle.model.specs.Change.{kept_columns}
use Rattle.store_head.specs.Writing.{shape, SameShape}
use Rattle.reshape.proofs.resize.drop_columns.Given as goal

abbrev pub invariant-loop-y : goal.invariant-loop-y
invariant-loop-y l = (shape l.store ≡ kept_columns l.y l.w (shape l.fn.store)) × SameShape l.fn.store l.store
