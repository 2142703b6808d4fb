-- `permutation::any_map::make_identity` meets its contract. Assumes nothing.
use mathlib.Core.Path.{◌≡◌, ap, ◌∙◌}
use native.Mathlib.Omega.{arith}
use lib.Dec.{ltb}
use borrow.Author.Tests.{lt-ltb, le-ltb}
use Rattle.laws.specs.Plain.{pick}
use Rattle.laws.proofs.Filling.{fill_done}
use Rattle.lent.proofs.Numbers.{nums-length, nums-set}
use Rattle.permutation.proofs.Identity.{number-start, number_more}
use Rattle.permutation.proofs.any_map.make_identity.Goals.{then-i-k, else-i-k}
use Rattle.permutation.proofs.any_map.make_identity.Goals as goal

pub loop-i-init : goal.loop-i-init
loop-i-init g c = number-start _ _ _ c.requires

pub loop-i-preserved : goal.loop-i-preserved
loop-i-preserved g c =
    let n = g.T.Number in
    let i = c.loop-i.i in
    let k = c.args.k in
    let y : n.num c.if-i-k.x ≡ pick (ltb i k) i 0 = elim c.if-i-k.branch [
      | then-i-k w ↦ rw (lt-ltb i k w.if-i-k.true) (ap n.num w.x-is ∙ w.of_place.ensures)
      | else-i-k w ↦ rw (le-ltb i k w.if-i-k.false) (ap n.num w.x-is ∙ g.met.T.Number.zero_law _ w.default.ensures)
    ] in
    rw (nums-set n.num n.nums n.nums_law c.loop-i.map i c.if-i-k.x)
    (number_more _ _ _ _ _ c.loop-i.invariant (omega (arith, nums-length n.num n.nums n.nums_law c.args.map.now)) y)

pub returns : goal.returns
returns g c =
    let n = g.T.Number in
    fill_done _ _ (n.nums c.loop-i.map) c.loop-i.i c.loop-i.invariant (omega (arith, nums-length n.num n.nums n.nums_law c.args.map.now))
