-- `listings::row_lists::query_non_zero_columns_in` meets its contract. Assumes nothing.
use native.Mathlib.Omega.{arith}
use mathlib.Core.Path.{refl}
use Rattle.listings.proofs.QueryLists.{tail-low, tail-lists, tail-told, ones_low}
use Rattle.listings.proofs.row_lists.query_non_zero_columns_in.Goals as goal

pub home_row-y-requires : goal.home_row-y-requires
home_row-y-requires c = omega (arith, tail-low _ _ c.requires c.in_ok-refuse_tail_ones.ensures, c.requires.maps.rows.f-long)

pub ones-ones-requires : goal.ones-ones-requires
ones-ones-requires c = tail-lists _ _ c.requires c.in_ok-refuse_tail_ones.ensures _ _ c.home_row-y.ensures refl _ (omega arith)

pub overflow_cast-result : goal.overflow_cast-result
overflow_cast-result c = omega (arith, ones_low _ _ _ _ _ c.ones-ones.ensures.0)

pub returns : goal.returns
returns c = tail-told _ _ c.requires c.in_ok-refuse_tail_ones.ensures _ _ c.home_row-y.ensures refl _ _ c.ones-ones.ensures
