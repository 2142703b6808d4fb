-- `reshape::resize::bring_all` meets its contract. Assumes nothing.
use Rattle.std.specs.Prelude.{◌≡◌}
use Rattle.model.specs.Change.{brought_home}
use Rattle.store_head.specs.Writing.{shape, SameShape}
use Rattle.reshape.proofs.resize.bring_all.Given as goal

abbrev pub invariant-loop-r : goal.invariant-loop-r
invariant-loop-r l = (shape l.store ≡ brought_home l.r (shape l.fn.store)) × SameShape l.fn.store l.store
