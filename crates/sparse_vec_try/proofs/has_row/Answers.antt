-- `sparse_vec_try::has_row` meets its contract. Assumes nothing.
use mathlib.Core.Bool.{false≢true}
use borrow.Author.Tests.{ltb-false}
use Rattle.sparse_vec_try.proofs.Told.{stretch-told}
use native.Mathlib.Omega.{arith}
use Rattle.sparse_vec_try.proofs.has_row.Goals as goal

pub returns-then-slots-row : goal.returns-then-slots-row
returns-then-slots-row c = λ e. absurd (false≢true e)

pub returns-then-slots-row-2 : goal.returns-then-slots-row-2
returns-then-slots-row-2 c = λ e. absurd (false≢true e)

pub returns-then-not-is_row : goal.returns-then-not-is_row
returns-then-not-is_row c = λ e. absurd (false≢true e)

pub returns : goal.returns
returns c = λ e. stretch-told _ _ _ _ _ (omega (arith, ltb-false)) (omega (arith, ltb-false)) (rw c.numbers.ensures at (c.is_row.ensures c.if-not-is_row.false)) (c.zero_between.ensures e)
