-- `sparse_vec::passes::merge_forward` meets its contract. Assumes nothing.
use lib.ListN.{length, get_or}
use lib.Dec.{leb, eqb}
use mathlib.Core.Bool.{not}
use borrow.Author.Tests.{ltb-true, ltb-false}
use Rattle.sparse_vec.proofs.Forward.{merging_start, merging-more, merging-done}
use Prim.Native.Nat.{◌+◌}
use mathlib.Core.Path.{refl}
use mathlib.Core.Logic.{inl, inr}
use Rattle.sparse_vec.proofs.Steps.{step_fits, step_falls}
use native.Mathlib.Omega.{arith}
use Rattle.sparse_vec.proofs.passes.merge_forward.Goals as goal

pub loop-i-init : goal.loop-i-init
loop-i-init c = merging_start _ _ _ _ _ c.requires

pub bounds-slots-from : goal.bounds-slots-from
bounds-slots-from c = omega (arith, ltb-true)

pub overflow_add-n : goal.overflow_add-n
overflow_add-n c = let a = c.args in let x = get_or c.loop-i.slots (a.to.at + a.from.len + c.loop-i.i) 0 in let y = get_or c.loop-i.slots (a.from.at + c.loop-i.j) 0 in
    step_fits _ (length c.loop-i.slots) (not (eqb x y)) (omega (arith, ltb-true)) (omega arith)

pub overflow_add-i : goal.overflow_add-i
overflow_add-i c = let a = c.args in let x = get_or c.loop-i.slots (a.to.at + a.from.len + c.loop-i.i) 0 in let y = get_or c.loop-i.slots (a.from.at + c.loop-i.j) 0 in
    step_fits _ (length c.loop-i.slots) (leb x y) (omega (arith, ltb-true)) (omega arith)

pub overflow_add-j : goal.overflow_add-j
overflow_add-j c = let a = c.args in let x = get_or c.loop-i.slots (a.to.at + a.from.len + c.loop-i.i) 0 in let y = get_or c.loop-i.slots (a.from.at + c.loop-i.j) 0 in
    step_fits _ (length c.loop-i.slots) (leb y x) (omega (arith, ltb-true)) (omega arith)

pub loop-i-smaller : goal.loop-i-smaller
loop-i-smaller c = let a = c.args in let x = get_or c.loop-i.slots (a.to.at + a.from.len + c.loop-i.i) 0 in let y = get_or c.loop-i.slots (a.from.at + c.loop-i.j) 0 in
    step_falls _ _ _ _ x y (omega arith) (omega (arith, ltb-true))

pub loop-i-preserved : goal.loop-i-preserved
loop-i-preserved c = merging-more _ _ _ _ _ c.requires _ _ _ _ c.loop-i.invariant (omega arith) (omega (arith, ltb-true)) _ _ _ refl refl c.min.ensures

pub returns-else-j-from : goal.returns-else-j-from
returns-else-j-from c = merging-done _ _ _ _ _ c.requires _ _ _ _ c.loop-i.invariant (inr (omega (arith, ltb-false)))

pub returns-after-loop-i : goal.returns-after-loop-i
returns-after-loop-i c = merging-done _ _ _ _ _ c.requires _ _ _ _ c.loop-i.invariant (inl (omega arith))
