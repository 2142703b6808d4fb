-- `store_check::sizes::head_ok` meets its contract. Assumes nothing.
use Rattle.store_check.proofs.Pieces.{head-told}
use Rattle.store_check.proofs.sizes.head_ok.Goals as goal

pub returns : goal.returns
returns c = head-told _
