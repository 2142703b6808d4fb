-- `script::run` meets its contract. Assumes nothing.
use Rattle.store_head.proofs.Calls.{sound}
use Rattle.script.proofs.run.Goals as goal

pub run_on-done-requires : goal.run_on-done-requires
run_on-done-requires c = sound _ c.in_ok-whole.ensures
