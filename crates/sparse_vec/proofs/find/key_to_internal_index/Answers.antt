-- `sparse_vec::find::key_to_internal_index` meets its contract. Assumes nothing.
use Rattle.sparse_vec.proofs.Finding.{none-there, end-at, end_after, end_before}
use Rattle.lent.proofs.Numbers.{nums-at, nums-length}
use mathlib.Core.Path.{◌≡◌, refl, sym, ◌∙◌}
use lib.ListN.{length, get_or}
use native.Mathlib.Omega.{arith}
use borrow.Author.Tests.{eqb-true}
use Rattle.sparse_vec.proofs.find.key_to_internal_index.Goals as goal

pub returns-then-is_empty : goal.returns-then-is_empty
returns-then-is_empty g c =
    let n = g.T.Number in let l = nums-length n.num n.nums n.nums_law c.args.row.now in
    let z : length c.args.row.now ≡ 0 = eqb-true _ _ (sym c.is_empty.ensures ∙ c.if-is_empty.true) in
    none-there _ _ _ refl (l ∙ z)

pub returns-then-y-x : goal.returns-then-y-x
returns-then-y-x g c =
    let n = g.T.Number in
    let e = nums-at n.num n.nums n.nums_law c.args.row.now c.last_up_to-i.result c.index-row-i.result (omega (arith, nums-length n.num n.nums n.nums_law c.args.row.now)) in
    let y : c.wide-y.result ≡ get_or (n.nums c.args.row.now) c.last_up_to-i.result 0 = cc in
    let w = rw c.wide-x.ensures at c.last_up_to-i.ensures in
    end-at _ _ _ c.requires w (omega arith)

pub returns-then-y-x-2 : goal.returns-then-y-x-2
returns-then-y-x-2 g c =
    let n = g.T.Number in
    let e = nums-at n.num n.nums n.nums_law c.args.row.now c.last_up_to-i.result c.index-row-i.result (omega (arith, nums-length n.num n.nums n.nums_law c.args.row.now)) in
    let y : c.wide-y.result ≡ get_or (n.nums c.args.row.now) c.last_up_to-i.result 0 = cc in
    let w = rw c.wide-x.ensures at c.last_up_to-i.ensures in
    end_after _ _ _ c.requires w (omega arith)

pub returns-else-y-x-2 : goal.returns-else-y-x-2
returns-else-y-x-2 g c =
    let n = g.T.Number in
    let e = nums-at n.num n.nums n.nums_law c.args.row.now c.last_up_to-i.result c.index-row-i.result (omega (arith, nums-length n.num n.nums n.nums_law c.args.row.now)) in
    let y : c.wide-y.result ≡ get_or (n.nums c.args.row.now) c.last_up_to-i.result 0 = cc in
    let w = rw c.wide-x.ensures at c.last_up_to-i.ensures in
    end_before _ _ _ c.requires w (omega arith)
