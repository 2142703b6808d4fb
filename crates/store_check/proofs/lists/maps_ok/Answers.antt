-- `store_check::lists::maps_ok` meets its contract. Assumes nothing.
use Rattle.store_check.proofs.Pieces.{maps-told}
use Rattle.store_check.proofs.lists.maps_ok.Goals as goal

pub returns : goal.returns
returns c = maps-told _ _ _ c.are_inverse.ensures c.are_inverse-2.ensures
