-- `sparse_vec::passes::merge_up` meets its contract. Assumes nothing.
use Rattle.sparse_vec.proofs.Laying.{up_start, up-eq, up-d-pos, up-d-lay, low-none, low-some, up-s-pos, up-s-lay, up-end}
use Prim.Native.Nat.{◌-◌}
use native.Mathlib.Omega.{arith}
use Rattle.sparse_vec.proofs.passes.merge_up.Goals as goal

pub loop-j-init : goal.loop-j-init
loop-j-init c = up_start _ _ _ _ _ _ c.requires

pub loop-j-preserved-then-x-y : goal.loop-j-preserved-then-x-y
loop-j-preserved-then-x-y c = up-eq _ _ _ _ _ _ c.requires _ _ _ _ _ c.loop-j.invariant _ _ (omega arith) (omega arith) c.if-x-y.true

pub overflow_sub-w : goal.overflow_sub-w
overflow_sub-w c = let e = c.if-y-x.true in omega (arith, up-d-pos _ _ _ _ _ _ c.requires _ _ _ _ _ c.loop-j.invariant _ _ (omega arith) (omega arith) e)

pub loop-j-preserved-then-y-x : goal.loop-j-preserved-then-y-x
loop-j-preserved-then-y-x c = let e = c.if-y-x.true in let o = up-d-pos _ _ _ _ _ _ c.requires _ _ _ _ _ c.loop-j.invariant _ _ (omega arith) (omega arith) e in
    up-d-lay _ _ _ _ _ _ c.requires _ _ _ _ _ c.loop-j.invariant _ _ (omega arith) (omega arith) e _ (omega arith) _ c.lay.ensures

pub overflow_sub-w-else-y-x : goal.overflow_sub-w-else-y-x
overflow_sub-w-else-y-x c = let low = low-some _ _ _ _ _ _ c.requires _ _ _ _ _ c.loop-j.invariant (c.loop-j.i - 1) (c.loop-j.j - 1) (omega arith) (omega arith) (omega arith) in omega (arith, up-s-pos _ _ _ _ _ _ c.requires _ _ _ _ _ c.loop-j.invariant (c.loop-j.j - 1) (omega arith) low)

pub loop-j-preserved-else-y-x : goal.loop-j-preserved-else-y-x
loop-j-preserved-else-y-x c = let low = low-some _ _ _ _ _ _ c.requires _ _ _ _ _ c.loop-j.invariant (c.loop-j.i - 1) (c.loop-j.j - 1) (omega arith) (omega arith) (omega arith) in let o = up-s-pos _ _ _ _ _ _ c.requires _ _ _ _ _ c.loop-j.invariant (c.loop-j.j - 1) (omega arith) low in
    up-s-lay _ _ _ _ _ _ c.requires _ _ _ _ _ c.loop-j.invariant (c.loop-j.j - 1) (omega arith) low _ (omega arith) _ c.lay-else-y-x.ensures

pub overflow_sub-w-else-i-gt0 : goal.overflow_sub-w-else-i-gt0
overflow_sub-w-else-i-gt0 c = let low = low-none _ _ _ _ _ _ c.requires _ _ _ _ _ c.loop-j.invariant (c.loop-j.j - 1) (omega arith) in omega (arith, up-s-pos _ _ _ _ _ _ c.requires _ _ _ _ _ c.loop-j.invariant (c.loop-j.j - 1) (omega arith) low)

pub lay-requires-else-i-gt0 : goal.lay-requires-else-i-gt0
lay-requires-else-i-gt0 c = let low = low-none _ _ _ _ _ _ c.requires _ _ _ _ _ c.loop-j.invariant (c.loop-j.j - 1) (omega arith) in omega (arith, up-s-pos _ _ _ _ _ _ c.requires _ _ _ _ _ c.loop-j.invariant (c.loop-j.j - 1) (omega arith) low)

pub loop-j-preserved : goal.loop-j-preserved
loop-j-preserved c = let low = low-none _ _ _ _ _ _ c.requires _ _ _ _ _ c.loop-j.invariant (c.loop-j.j - 1) (omega arith) in let o = up-s-pos _ _ _ _ _ _ c.requires _ _ _ _ _ c.loop-j.invariant (c.loop-j.j - 1) (omega arith) low in
    up-s-lay _ _ _ _ _ _ c.requires _ _ _ _ _ c.loop-j.invariant (c.loop-j.j - 1) (omega arith) low _ (omega arith) _ c.lay-else-i-gt0.ensures

pub returns : goal.returns
returns c = up-end _ _ _ _ _ _ c.requires _ _ _ _ _ c.loop-j.invariant (omega arith)
