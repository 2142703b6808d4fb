-- `store_check::index::index_ok` meets its contract. Assumes nothing.
use Rattle.store_check.proofs.Pieces.{switched-on}
use Rattle.store_check.proofs.Verdict.{can-check}
use Rattle.store_check.proofs.index.index_ok.Goals as goal

pub sound-requires : goal.sound-requires
sound-requires c = can-check _ c.requires

pub returns : goal.returns
returns c = switched-on _ _ c.if-not-store.false c.sound.ensures
