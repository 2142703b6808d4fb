-- `sparse_vec::find::last_up_to` meets its contract. Assumes nothing.
use Rattle.sparse_vec.proofs.Finding.{within-next}
use Rattle.lent.proofs.Numbers.{nums-at, nums-length}
use mathlib.Core.Path.{◌≡◌}
use lib.ListN.{get_or}
use Prim.Native.Nat.{◌+◌, ◌/◌, ◌<◌}
use native.Mathlib.Omega.{arith}
use Rattle.sparse_vec.proofs.find.+last_up_to.Goals as goal

pub last_up_to-requires : goal.last_up_to-requires
last_up_to-requires g t c κs within =
    let n = g.T.Number in let i = c.args.at + c.args.n / 2 in
    let two : 1 < c.args.n = omega (arith, c.requires.within.some, c.if-n-eq1.false) in
    let e = nums-at n.num n.nums n.nums_law c.args.list.now i c.index-list-at.result (omega (arith, c.requires.within.inside, two, nums-length n.num n.nums n.nums_law c.args.list.now)) in
    let y : c.wide-y.result ≡ get_or (n.nums c.args.list.now) i 0 = cc in
    (omega (arith, two), (within, (c.requires.rising, within-next _ _ _ _ c.requires.rising c.requires.within two _ y c.wide-y.type_inv c.ranges.x.fits)))
