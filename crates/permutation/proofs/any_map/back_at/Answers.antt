-- `permutation::any_map::back_at` meets its contract. Assumes nothing.
use mathlib.Core.Path.{◌≡◌, ◌∙◌}
use native.Mathlib.Omega.{arith}
use Prim.Native.Nat.{◌<◌}
use lib.ListN.{length, get_or}
use borrow.Author.Tests.{le-ltb}
use Rattle.lent.proofs.Numbers.{nums-length}
use Rattle.permutation.proofs.Inverse.{back-high, back_low}
use Rattle.permutation.proofs.Stored.{read-is}
use Rattle.permutation.proofs.any_map.back_at.Goals as goal

pub returns-then-x-k : goal.returns-then-x-k
returns-then-x-k g c =
    let n = g.T.Number in
    let f = c.args.f.now in
    let r = c.args.g.now in
    let i : c.args.i < length f = omega (arith, nums-length n.num n.nums n.nums_law f) in
    let x : c.place-x.result ≡ get_or (n.nums f) c.args.i 0 = c.place-x.ensures ∙ read-is n.num n.nums n.nums_law f c.args.i c.index-f-i.result c.index-f-i.is i in
    let j : c.place-x.result < length r = omega (arith, nums-length n.num n.nums n.nums_law r) in
    let y = c.place.ensures ∙ read-is n.num n.nums n.nums_law r c.place-x.result c.index-g-x.result c.index-g-x.is j in
    rw (y, x) (back_low c.args.k (n.nums f) (n.nums r) c.args.i (omega arith))

pub returns-else-x-k : goal.returns-else-x-k
returns-else-x-k g c =
    let n = g.T.Number in
    let f = c.args.f.now in
    let i : c.args.i < length f = omega (arith, nums-length n.num n.nums n.nums_law f) in
    let x : c.place-x.result ≡ get_or (n.nums f) c.args.i 0 = c.place-x.ensures ∙ read-is n.num n.nums n.nums_law f c.args.i c.index-f-i.result c.index-f-i.is i in
    le-ltb c.place-x.result c.args.k c.if-x-k.false ∙ back-high c.args.k (n.nums f) (n.nums c.args.g.now) c.args.i (omega arith)
