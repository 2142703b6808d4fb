-- `store_check::index::off_ok` meets its contract. Assumes nothing.
use Rattle.store_check.proofs.Pieces.{off-told}
use Rattle.store_check.proofs.index.off_ok.Goals as goal

pub returns : goal.returns
returns c = off-told _ _ _ _ c.rest_zero.ensures c.rest_zero-2.ensures c.rest_zero-3.ensures
