-- `sparse_vec::find::get_near` meets its contract. Assumes nothing.
use Rattle.sparse_vec.proofs.Finding.{there_at, found_at, found-insert}
use Rattle.lent.proofs.Numbers.{nums-at, nums-length}
use mathlib.Core.Path.{◌≡◌, sym}
use lib.ListN.{get_or}
use Prim.Native.Nat.{◌-◌}
use native.Mathlib.Omega.{arith}
use Rattle.sparse_vec.proofs.find.get_near.Goals as goal

pub returns-then-wide-wanted : goal.returns-then-wide-wanted
returns-then-wide-wanted g c =
    let n = g.T.Number in let l = nums-length n.num n.nums n.nums_law c.args.row.now in
    let e = nums-at n.num n.nums n.nums_law c.args.row.now c.args.near.now c.index-row-at.result (omega (arith, l, c.if-at-row.true)) in
    let y : get_or (n.nums c.args.row.now) c.args.near.now 0 ≡ n.num c.args.x = cc in
    sym (there_at _ _ c.args.near.now c.requires (omega (arith, l, c.if-at-row.true)) y)

pub returns-then-wide-wanted-2 : goal.returns-then-wide-wanted-2
returns-then-wide-wanted-2 g c =
    let n = g.T.Number in let i = c.args.near.now - 1 in let l = nums-length n.num n.nums n.nums_law c.args.row.now in
    let e = nums-at n.num n.nums n.nums_law c.args.row.now i c.index-row-at-then-at-row-2.result (omega (arith, l, c.if-at-row-2.true)) in
    let y : get_or (n.nums c.args.row.now) i 0 ≡ n.num c.args.x = cc in
    sym (there_at _ _ i c.requires (omega (arith, l, c.if-at-row-2.true)) y)

pub returns-in-Ok : goal.returns-in-Ok
returns-in-Ok g c = sym (found_at _ _ _ c.in-Ok.ensures).1

pub returns-in-Err : goal.returns-in-Err
returns-in-Err g c = sym (found-insert _ _ _ c.in-Err.ensures).1
