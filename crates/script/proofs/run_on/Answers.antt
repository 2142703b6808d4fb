-- `script::run_on` meets its contract. Assumes nothing.
use native.Mathlib.Omega.{arith}
use Rattle.script.proofs.Turns.{started, further, runs_on, runs-out}
use Rattle.script.proofs.run_on.Goals as goal

pub loop-next-init : goal.loop-next-init
loop-next-init c = (started _ _ _ _ c.requires, search)

pub turn_at-requires : goal.turn_at-requires
turn_at-requires c = c.loop-next.invariant.0.ok

pub loop-next-smaller : goal.loop-next-smaller
loop-next-smaller c = let w = further _ _ _ _ _ _ _ _ c.loop-next.invariant.0 _ c.turn_at.ensures.told _ c.in-Some.is in omega (arith, w.0, w.1)

pub loop-next-preserved : goal.loop-next-preserved
loop-next-preserved c =
    (runs_on _ _ _ _ _ _ _ _ c.loop-next.invariant.0 _ c.turn_at.ensures.told _ c.in-Some.is, search)

pub returns-clause-told : goal.returns-clause-told
returns-clause-told c = runs-out _ _ _ _ _ _ _ _ c.loop-next.invariant.0 _ c.turn_at.ensures.told c.in_default.is
