-- `listings::column_list::get_ones_in_column_in` meets its contract. Assumes nothing.
use native.Mathlib.Omega.{arith}
use mathlib.Core.Path.{refl}
use Rattle.store_head.proofs.QueryPlaces.{column-low, column-in}
use Rattle.listings.proofs.QueryColumn.{colones-wide, colones-gets, colones-shows, colones-told, shown-low}
use Rattle.listings.proofs.column_list.get_ones_in_column_in.Goals as goal

pub column-requires : goal.column-requires
column-requires c = column-low _ c.requires _ (colones-wide _ _ c.requires c.in_ok-refuse_col_ones.ensures)

pub home_column-z-requires : goal.home_column-z-requires
home_column-z-requires c = column-in _ c.requires _ _ (colones-wide _ _ c.requires c.in_ok-refuse_col_ones.ensures) c.column.ensures

pub get-list-requires : goal.get-list-requires
get-list-requires c = colones-gets _ _ c.requires c.in_ok-refuse_col_ones.ensures _ _ _ c.column.ensures c.home_column-z.ensures refl

pub show-n-requires : goal.show-n-requires
show-n-requires c = colones-shows _ _ c.requires c.in_ok-refuse_col_ones.ensures _ _ _ c.column.ensures c.home_column-z.ensures refl _ c.get-list.ensures

pub overflow_cast-result : goal.overflow_cast-result
overflow_cast-result c = omega (arith, shown-low _ _ _ _ _ c.show-n.ensures.0, c.ranges.b)

pub returns : goal.returns
returns c = colones-told _ _ c.requires c.in_ok-refuse_col_ones.ensures _ _ _ c.column.ensures c.home_column-z.ensures refl _ c.get-list.ensures _ _ c.show-n.ensures
