-- `sparse_vec::passes::merge_on` meets its contract. Assumes nothing.
use Rattle.sparse_vec.proofs.Settling.{on-start, on-rest, on-pass, on-falls, on-lt, on-eq, on-gt, on-right, on_room, on-bring, on-brought, on-end}
use Rattle.sparse_vec.proofs.Steps.{step_fits}
use Prim.Native.Nat.{◌+◌}
use lib.ListN.{get_or}
use lib.Dec.{leb, eqb}
use mathlib.Core.Bool.{not}
use mathlib.Core.Path.{refl}
use native.Mathlib.Omega.{arith}
use Rattle.sparse_vec.proofs.passes.merge_on.Goals as goal

pub loop-j-init : goal.loop-j-init
loop-j-init c = on-start _ _ _ _ _ _ c.requires

pub loop-j-preserved-then-w-n : goal.loop-j-preserved-then-w-n
loop-j-preserved-then-w-n c = on-rest _ _ _ _ _ _ _ _ _ _ c.loop-j.invariant (omega arith) (omega arith)

pub overflow_add-w : goal.overflow_add-w
overflow_add-w c = let a = c.args in let z = get_or c.loop-j.slots (a.to.at + c.loop-j.w) 0 in let y = get_or c.loop-j.slots (a.from.at + c.loop-j.j) 0 in
    step_fits _ a.n (leb z y) (omega arith) (omega arith)

pub overflow_add-i-else-w-n : goal.overflow_add-i-else-w-n
overflow_add-i-else-w-n c = let a = c.args in let z = get_or c.loop-j.slots (a.to.at + c.loop-j.w) 0 in let y = get_or c.loop-j.slots (a.from.at + c.loop-j.j) 0 in
    step_fits _ c.loop-j.w (not (eqb z y)) (omega arith) (omega arith)

pub overflow_add-j-else-w-n : goal.overflow_add-j-else-w-n
overflow_add-j-else-w-n c = let a = c.args in let z = get_or c.loop-j.slots (a.to.at + c.loop-j.w) 0 in let y = get_or c.loop-j.slots (a.from.at + c.loop-j.j) 0 in
    step_fits _ a.from.len (leb y z) (omega arith) (omega arith)

pub loop-j-smaller-else-w-n : goal.loop-j-smaller-else-w-n
loop-j-smaller-else-w-n c = let a = c.args in let z = get_or c.loop-j.slots (a.to.at + c.loop-j.w) 0 in let y = get_or c.loop-j.slots (a.from.at + c.loop-j.j) 0 in
    on-falls _ _ _ _ _ _ _ _ _ _ c.loop-j.invariant (omega arith) (omega arith) (omega arith) z y refl refl

pub loop-j-preserved-else-w-n : goal.loop-j-preserved-else-w-n
loop-j-preserved-else-w-n c = let a = c.args in let z = get_or c.loop-j.slots (a.to.at + c.loop-j.w) 0 in let y = get_or c.loop-j.slots (a.from.at + c.loop-j.j) 0 in
    on-pass _ _ _ _ _ _ _ _ _ _ c.loop-j.invariant (omega arith) (omega arith) (omega arith) z y refl refl

pub loop-j-preserved-then-x-y : goal.loop-j-preserved-then-x-y
loop-j-preserved-then-x-y c = on-lt _ _ _ _ _ _ _ _ _ _ c.loop-j.invariant (omega arith) (omega arith) (omega arith) c.if-x-y.true

pub loop-j-preserved-then-x-y-2 : goal.loop-j-preserved-then-x-y-2
loop-j-preserved-then-x-y-2 c = on-eq _ _ _ _ _ _ _ _ _ _ c.loop-j.invariant (omega arith) (omega arith) (omega arith) c.if-x-y-2.true

pub loop-j-preserved-else-x-y-2 : goal.loop-j-preserved-else-x-y-2
loop-j-preserved-else-x-y-2 c = on-gt _ _ _ _ _ _ _ _ _ _ c.loop-j.invariant (omega arith) (omega arith) (omega arith) (omega arith)

pub bounds-slots-to-else-i-to : goal.bounds-slots-to-else-i-to
bounds-slots-to-else-i-to c = omega (arith, on_room _ _ _ _ _ _ _ _ _ _ c.loop-j.invariant (omega arith) (omega arith))

pub overflow_add-w-else-i-to : goal.overflow_add-w-else-i-to
overflow_add-w-else-i-to c = omega (arith, on_room _ _ _ _ _ _ _ _ _ _ c.loop-j.invariant (omega arith) (omega arith))

pub loop-j-preserved : goal.loop-j-preserved
loop-j-preserved c = on-right _ _ _ _ _ _ _ _ _ _ c.loop-j.invariant (omega arith) (omega arith)

pub move_stretch-requires : goal.move_stretch-requires
move_stretch-requires c = on-bring _ _ _ _ _ _ _ _ _ _ c.loop-j.invariant (omega arith) (omega arith)

pub returns-then-w-i : goal.returns-then-w-i
returns-then-w-i c = on-brought _ _ _ _ _ _ _ _ _ _ c.loop-j.invariant _ (omega arith) (omega arith) c.move_stretch.ensures

pub returns-else-w-i : goal.returns-else-w-i
returns-else-w-i c = on-end _ _ _ _ _ _ _ _ _ _ c.loop-j.invariant (omega arith) (omega arith)
