-- `reshape::resize::bring_all` meets its contract. Assumes nothing.
use native.Mathlib.Omega.{arith}
use Rattle.reshape.proofs.Shrinks.{all_same, then_same, home-done, home-start, home-ok, home-low, home-next}
use Rattle.reshape.proofs.resize.bring_all.Goals as goal

pub loop-r-init : goal.loop-r-init
loop-r-init c = (home-start _, all_same _)

pub bring_home-requires : goal.bring_home-requires
bring_home-requires c = record { well_formed = home-ok _ c.requires.well_formed c.requires.off _ _ (omega arith) c.loop-r.invariant.0; r_low = home-low _ c.requires.well_formed c.requires.off _ _ (omega arith) c.loop-r.invariant.0 (omega arith) }

pub loop-r-preserved : goal.loop-r-preserved
loop-r-preserved c = (home-next _ _ _ _ c.loop-r.invariant.0 c.bring_home.ensures.told, then_same _ _ _ c.loop-r.invariant.1 c.bring_home.ensures.same)

pub returns-clause-told : goal.returns-clause-told
returns-clause-told c = home-done _ _ _ _ (omega arith) c.loop-r.invariant.0
