-- `permutation::any_map::leads_back` meets its contract. Assumes nothing.
use mathlib.Core.Path.{sym, ◌∙◌}
use native.Mathlib.Omega.{arith}
use Rattle.lent.proofs.Numbers.{nums-length}
use Rattle.permutation.proofs.Inverse.{short-f, short-g, look-start, can-look, look-more, look-fails, look-done}
use Rattle.permutation.proofs.any_map.leads_back.Goals.{then-f-k-via-then-f-k, then-f-k-via-else-f-k+then-g-k}
use Rattle.permutation.proofs.any_map.leads_back.Goals as goal

pub returns-then-f-k : goal.returns-then-f-k
returns-then-f-k g c =
    let n = g.T.Number in
    elim c.then-f-k.branch [
      | then-f-k-via-then-f-k w ↦ short-f _ _ _ (omega (arith, nums-length n.num n.nums n.nums_law c.args.f.now))
      | then-f-k-via-else-f-k+then-g-k w ↦ short-g _ _ _ (omega (arith, nums-length n.num n.nums n.nums_law c.args.g.now))
    ]

pub loop-i-init : goal.loop-i-init
loop-i-init g c =
    let n = g.T.Number in
    look-start c.args.k (n.nums c.args.f.now) (n.nums c.args.g.now)
    (omega (arith, nums-length n.num n.nums n.nums_law c.args.f.now)) (omega (arith, nums-length n.num n.nums n.nums_law c.args.g.now))

pub back_at-requires : goal.back_at-requires
back_at-requires g c = can-look _ _ _ _ c.loop-i.invariant (omega arith)

pub returns-then-not-back_at : goal.returns-then-not-back_at
returns-then-not-back_at g c = look-fails _ _ _ _ c.loop-i.invariant (omega arith) (sym c.back_at.ensures ∙ c.if-not-back_at.true)

pub loop-i-preserved : goal.loop-i-preserved
loop-i-preserved g c = look-more _ _ _ _ c.loop-i.invariant (omega arith) (sym c.back_at.ensures ∙ c.if-not-back_at.false)

pub returns : goal.returns
returns g c = look-done _ _ _ _ c.loop-i.invariant (omega arith)
