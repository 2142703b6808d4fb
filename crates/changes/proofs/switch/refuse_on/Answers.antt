-- `changes::switch::refuse_on` meets its contract. Assumes nothing.
use mathlib.Core.Path.{refl}
use Rattle.store_head.proofs.Refuses.{number_of, none_of}
use Rattle.changes.proofs.Switches.{on-full, on-done}
use Rattle.changes.proofs.switch.refuse_on.Goals as goal

pub returns-then-store-ones : goal.returns-then-store-ones
returns-then-store-ones c = number_of _ _ _ (on-full _ c.requires _ c.total-ones.ensures c.if-store-ones.true)

pub returns : goal.returns
returns c = none_of _ _ _ (on-done _ c.requires _ c.total-ones.ensures c.if-store-ones.false _ _ _ refl refl refl)
