-- `sparse_vec::passes::sum_length` meets its contract. Assumes nothing.
use mathlib.Core.Logic.{inl, inr}
use lib.ListN.{length, get_or}
use lib.Dec.{leb, eqb}
use mathlib.Core.Bool.{not}
use Rattle.sparse_vec.proofs.Steps.{step_fits, step_falls, counted_start, counted-more, counted-done}
use Prim.Native.Nat.{◌+◌}
use borrow.Author.Tests.{ltb-true, ltb-false}
use native.Mathlib.Omega.{arith}
use Rattle.sparse_vec.proofs.passes.sum_length.Goals.{then-loop-i-test+else-j-b, else-loop-i-test}
use Rattle.sparse_vec.proofs.passes.sum_length.Goals as goal

pub loop-i-init : goal.loop-i-init
loop-i-init c = counted_start _ _

pub overflow_add-n : goal.overflow_add-n
overflow_add-n c = let a = c.args in let x = get_or a.a.now c.loop-i.i 0 in let y = get_or a.b.now c.loop-i.j 0 in
    step_fits _ (length a.a.now + length a.b.now) (not (eqb x y)) (omega arith) (omega arith)

pub overflow_add-i : goal.overflow_add-i
overflow_add-i c = let a = c.args in let x = get_or a.a.now c.loop-i.i 0 in let y = get_or a.b.now c.loop-i.j 0 in
    step_fits _ (length a.a.now) (leb x y) (omega arith) (omega arith)

pub overflow_add-j : goal.overflow_add-j
overflow_add-j c = let a = c.args in let x = get_or a.a.now c.loop-i.i 0 in let y = get_or a.b.now c.loop-i.j 0 in
    step_fits _ (length a.b.now) (leb y x) (omega arith) (omega arith)

pub loop-i-smaller : goal.loop-i-smaller
loop-i-smaller c = let a = c.args in let x = get_or a.a.now c.loop-i.i 0 in let y = get_or a.b.now c.loop-i.j 0 in
    step_falls _ _ _ _ x y (omega arith) (omega (arith, ltb-true))

pub loop-i-preserved : goal.loop-i-preserved
loop-i-preserved c = counted-more _ _ _ _ _ c.loop-i.invariant (omega arith) (omega (arith, ltb-true))

pub returns : goal.returns
returns c = counted-done _ _ _ _ _ c.loop-i.invariant
    (elim c.loop-i-test.branch [ then-loop-i-test+else-j-b w ↦ inr (omega (arith, ltb-false)) | else-loop-i-test w ↦ inl (omega arith) ])
