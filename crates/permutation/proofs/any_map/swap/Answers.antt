-- `permutation::any_map::swap` meets its contract. Assumes nothing.
use mathlib.Core.Path.{◌≡◌, ap₂, ◌∙◌}
use native.Mathlib.Omega.{arith}
use Prim.Native.Nat.{ℕ, ◌<◌}
use lib.ListN.{length, get_or, set}
use Rattle.lent.proofs.Numbers.{nums-length}
use Rattle.permutation.specs.Maps.{swapped, turned}
use Rattle.permutation.proofs.Stored.{read-is, swapped-is, written-is}
use Rattle.permutation.proofs.any_map.swap.Goals as goal

pub returns : goal.returns
unfolding turned
returns g c =
    let n = g.T.Number in
    let f = c.args.f.now in
    let i : ℕ = n.num c.args.i in
    let j : ℕ = n.num c.args.j in
    let long = nums-length n.num n.nums n.nums_law f in
    let p : c.place.result < length f = omega (arith, long) in
    let q : c.place-2.result < length f = omega (arith, long) in
    let p' : c.place-3.result < length f = omega (arith, long) in
    let q' : c.place-4.result < length f = omega (arith, long) in
    let x = read-is n.num n.nums n.nums_law f c.place.result c.index-f-place.result c.index-f-place.is p in
    let y = read-is n.num n.nums n.nums_law f c.place-2.result c.index-f-place-2.result c.index-f-place-2.is q in
    let a : c.place-5.result ≡ get_or (n.nums f) i 0 = cc in
    let b : c.place-6.result ≡ get_or (n.nums f) j 0 = cc in (
      swapped-is n.num n.nums n.nums_law f c.swap.new.self c.place-3.result c.place-4.result c.args.i p' q' c.swap.ensures.after
          ∙ ap₂ (swapped (n.nums f)) c.place-3.ensures c.place-4.ensures,
      written-is n.num n.nums n.nums_law c.args.g.now c.place-5.result c.place-6.result c.args.j c.args.i
          ∙ ap₂ (λ (k l : ℕ). set (set (n.nums c.args.g.now) k j) l i) a b,
    )
