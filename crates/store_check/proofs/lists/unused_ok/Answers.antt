-- `store_check::lists::unused_ok` meets its contract. Assumes nothing.
use Rattle.store_check.proofs.Pieces.{unused-told}
use Rattle.store_check.proofs.lists.unused_ok.Goals as goal

pub returns : goal.returns
returns c = unused-told _ _ c.words_for.ensures _ _ _ _ _ _ _ c.rest_zero.ensures c.rest_zero-2.ensures c.rest_zero-3.ensures c.rest_zero-4.ensures c.rest_zero-5.ensures c.rest_zero-6.ensures c.rest_zero-7.ensures
