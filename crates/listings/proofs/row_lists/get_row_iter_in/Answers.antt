-- `listings::row_lists::get_row_iter_in` meets its contract. Assumes nothing.
use native.Mathlib.Omega.{arith}
use Rattle.store_head.proofs.QueryPlaces.{in-slots}
use Rattle.listings.proofs.QueryLists.{iter-low, iter-walks, iter-few, iter-told}
use Rattle.listings.proofs.row_lists.get_row_iter_in.Goals as goal

pub home_row-y-requires : goal.home_row-y-requires
home_row-y-requires c = omega (arith, iter-low _ _ c.requires c.in_ok-refuse_iter.ensures, c.requires.maps.rows.f-long)

pub row-row-requires : goal.row-row-requires
row-row-requires c = in-slots _ c.requires _ _ (iter-low _ _ c.requires c.in_ok-refuse_iter.ensures) c.home_row-y.ensures

pub walk-n-requires : goal.walk-n-requires
walk-n-requires c = iter-walks _ _ c.requires c.in_ok-refuse_iter.ensures _ _ c.home_row-y.ensures c.row-row.ensures

pub overflow_cast-result : goal.overflow_cast-result
overflow_cast-result c = omega (arith, iter-few _ _ c.requires c.in_ok-refuse_iter.ensures _ _ c.home_row-y.ensures c.row-row.ensures _ c.walk-n.ensures.0)

pub returns : goal.returns
returns c = iter-told _ _ c.requires c.in_ok-refuse_iter.ensures _ _ c.home_row-y.ensures c.row-row.ensures _ _ c.walk-n.ensures
