-- `lengths::rows::row_length` meets its contract. Assumes nothing.
use native.Mathlib.Omega.{arith}
use lib.ListN.{get_or}
use Rattle.lengths.proofs.Walks.{row-start, row_more, row-short, row_done}
use Rattle.lengths.proofs.rows.row_length.Goals as goal

pub loop-z-init : goal.loop-z-init
loop-z-init c = row-start _ _ _ _

pub overflow_cast-z : goal.overflow_cast-z
overflow_cast-z c = omega (arith, c.type_inv.row c.loop-z.z-index)

pub offset_bounds-logical-z : goal.offset_bounds-logical-z
offset_bounds-logical-z c = omega (arith, c.requires.mapped.low c.loop-z.z-index (omega arith))

pub bounds-logical-z : goal.bounds-logical-z
bounds-logical-z c = c.requires.mapped.low c.loop-z.z-index (omega arith)

pub overflow_cast-logical : goal.overflow_cast-logical
overflow_cast-logical c = omega (arith, c.type_inv.logical (get_or c.args.row.now c.loop-z.z-index 0))

pub loop-z-preserved : goal.loop-z-preserved
loop-z-preserved c = row_more _ _ _ _ _ _ c.loop-z.invariant _ (omega arith) c.length_within-long.ensures

pub overflow_add-long : goal.overflow_add-long
overflow_add-long c = omega (arith, row-short _ _ _ _ _ _ (row_more _ _ _ _ _ _ c.loop-z.invariant _ (omega arith) c.length_within-long.ensures) c.requires.few)

pub returns : goal.returns
returns c = row_done _ _ _ _ _ _ c.loop-z.invariant c.loop-z-test.false
