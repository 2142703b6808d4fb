-- `lent::stretch::stretch_zero` meets its contract. Assumes nothing.
use mathlib.Core.Path.{◌≡◌}
use lib.Dec.{eqb}
use lib.ListN.{get_or}
use native.Mathlib.Omega.{arith}
use Rattle.lent.proofs.Scanning.{scan-start, scan-more}
use Rattle.lent.proofs.Numbers.{nums-length, nums-at}
use Rattle.lent.proofs.stretch.stretch_zero.Goals as goal

pub loop-i-init : goal.loop-i-init
loop-i-init g c = scan-start _ _

pub loop-i-preserved : goal.loop-i-preserved
loop-i-preserved g c =
    let n = g.T.Number in let m = g.met.T.Number in
    let e = nums-at n.num n.nums n.nums_law c.args.s.now c.loop-i.i c.index-s-i.result (omega (arith, c.loop-i-test.true, c.requires.in-it, nums-length n.num n.nums n.nums_law c.args.s.now)) in
    let z = m.zero_law _ c.default.ensures in
    let t = m.eq_law c.index-s-i.result c.default.result in
    let v : c.eq-zero.result ≡ eqb (get_or (n.nums c.args.s.now) c.loop-i.i 0) 0 = cc in
    rw v (scan-more _ _ _ _ c.loop-i.invariant)
