-- `lengths::columns::column_length` meets its contract. Assumes nothing.
use mathlib.Core.Path.{refl}
use native.Mathlib.Omega.{arith}
use Rattle.arraymap.proofs.Shown.{row-mapped}
use Rattle.lengths.proofs.Shown.{column-start, column-more, column-short, column-done}
use Rattle.lengths.proofs.columns.column_length.Goals as goal

pub loop-y-init : goal.loop-y-init
loop-y-init c = column-start _ _ _ _

pub overflow_cast-y : goal.overflow_cast-y
overflow_cast-y c = omega (arith, c.type_inv.list c.loop-y.y-index)

pub offset_bounds-logical-y : goal.offset_bounds-logical-y
offset_bounds-logical-y c = omega (arith, row-mapped _ _ _ _ c.loop-y.y-index _ c.requires.shows (omega arith) refl)

pub bounds-logical-y : goal.bounds-logical-y
bounds-logical-y c = omega (arith, row-mapped _ _ _ _ c.loop-y.y-index _ c.requires.shows (omega arith) refl)

pub loop-y-preserved : goal.loop-y-preserved
loop-y-preserved c = column-more _ _ _ _ _ _ _ _ c.requires c.loop-y.invariant _ (omega arith) c.length_within-long.ensures

pub overflow_add-long : goal.overflow_add-long
overflow_add-long c = omega (arith, column-short _ _ _ _ _ _ _ _ c.requires (column-more _ _ _ _ _ _ _ _ c.requires c.loop-y.invariant _ (omega arith) c.length_within-long.ensures))

pub returns : goal.returns
returns c = column-done _ _ _ _ _ _ _ _ c.requires c.loop-y.invariant c.loop-y-test.false
