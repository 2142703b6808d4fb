-- `queries::query::get_in` meets its contract. Assumes nothing.
use mathlib.Core.Path.{refl}
use Rattle.queries.proofs.QueryNumbers.{get-row, get-column, get-sparse, get-tail}
use Rattle.store_head.proofs.QueryPlaces.{in-slots, cell_in}
use Rattle.queries.proofs.query.get_in.Goals as goal

pub returns-then-store-r : goal.returns-then-store-r
returns-then-store-r c = get-row _ _ c.if-store-r.true

pub returns-then-store-c : goal.returns-then-store-c
returns-then-store-c c = get-column _ _ c.if-store-r.false c.if-store-c.true

pub row-row-requires : goal.row-row-requires
row-row-requires c = in-slots _ c.requires _ _ c.if-store-r.false c.home_row-y.ensures

pub get-set-requires : goal.get-set-requires
get-set-requires c = cell_in _ c.requires _ _ c.if-store-r.false c.home_row-y.ensures _ refl _ c.if-c-edge.false c.if-store-c.false

pub returns-then-c-edge : goal.returns-then-c-edge
returns-then-c-edge c = get-sparse _ _ c.if-store-r.false c.if-store-c.false _ _ _ _ _ _ c.if-c-edge.true c.home_row-y.ensures c.column.ensures c.home_column-z.ensures c.row-row.ensures c.get-one.ensures c.from.ensures

pub returns-else-c-edge : goal.returns-else-c-edge
returns-else-c-edge c = get-tail _ _ c.if-store-r.false c.if-store-c.false _ _ _ _ c.if-c-edge.false c.home_row-y.ensures refl c.get-set.ensures c.from-else-c-edge.ensures
