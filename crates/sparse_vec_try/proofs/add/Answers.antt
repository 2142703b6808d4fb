-- `sparse_vec_try::add` meets its contract. Assumes nothing.
use Rattle.sparse_vec_try.proofs.Told.{can-add}
use mathlib.Core.Logic.{inl, inr}
use native.Mathlib.Omega.{arith}
use Rattle.sparse_vec_try.proofs.add.Goals.{else-from-to-2-via-then-from-to-2+else-to-from, else-from-to-2-via-else-from-to-2}
use Rattle.sparse_vec_try.proofs.add.Goals as goal

pub overflow_add-to : goal.overflow_add-to
overflow_add-to c = omega (arith, (c.has_row.ensures c.if-not-has_row.false).row.fits)

pub overflow_add-from : goal.overflow_add-from
overflow_add-from c = omega (arith, (c.has_row-else-not-has_row.ensures c.if-not-has_row-2.false).row.fits)

pub sum_fits-requires : goal.sum_fits-requires
sum_fits-requires c = can-add _ _ _ _ _ _ _ _ (c.has_row.ensures c.if-not-has_row.false) (c.has_row-else-not-has_row.ensures c.if-not-has_row-2.false) c.if-from-to.false
    (elim c.else-from-to-2.branch [ else-from-to-2-via-then-from-to-2+else-to-from w ↦ inr (omega arith) | else-from-to-2-via-else-from-to-2 w ↦ inl (omega arith) ])

pub add_assign-requires : goal.add_assign-requires
add_assign-requires c = can-add _ _ _ _ _ _ _ _ (c.has_row.ensures c.if-not-has_row.false) (c.has_row-else-not-has_row.ensures c.if-not-has_row-2.false) c.if-from-to.false
    (elim c.else-from-to-2.branch [ else-from-to-2-via-then-from-to-2+else-to-from w ↦ inr (omega arith) | else-from-to-2-via-else-from-to-2 w ↦ inl (omega arith) ])
