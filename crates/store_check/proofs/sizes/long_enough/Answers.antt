-- `store_check::sizes::long_enough` meets its contract. Assumes nothing.
use Rattle.store_check.proofs.Pieces.{long-told}
use Rattle.store_check.proofs.sizes.long_enough.Goals as goal

pub returns : goal.returns
returns c = long-told _ _ c.words_for.ensures
