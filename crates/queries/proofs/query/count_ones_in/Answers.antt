-- `queries::query::count_ones_in` meets its contract. Assumes nothing.
use native.Mathlib.Omega.{arith}
use Rattle.queries.proofs.QueryNumbers.{count-row, count-side, count-is}
use Rattle.store_head.proofs.QueryPlaces.{in-slots, row-mapped, walk-low}
use Rattle.queries.proofs.query.count_ones_in.Goals as goal

pub returns-then-store-r : goal.returns-then-store-r
returns-then-store-r c = count-row _ _ c.if-store-r.true

pub returns-then-store-b : goal.returns-then-store-b
returns-then-store-b c = count-side _ _ c.if-store-r.false c.if-store-b.true

pub row-row-requires : goal.row-row-requires
row-row-requires c = in-slots _ c.requires _ _ c.if-store-r.false c.home_row-y.ensures

pub count_in-ones-requires : goal.count_in-ones-requires
count_in-ones-requires c = row-mapped _ c.requires _ _ c.if-store-r.false c.home_row-y.ensures _ c.row-row.ensures

pub overflow_cast-result : goal.overflow_cast-result
overflow_cast-result c = omega (arith, walk-low _ c.requires _ _ c.if-store-r.false c.home_row-y.ensures _ _ _ _ c.row-row.ensures c.count_in-ones.ensures)

pub returns : goal.returns
returns c = count-is _ _ c.if-store-r.false c.requires _ _ _ c.if-store-b.false c.home_row-y.ensures c.row-row.ensures c.count_in-ones.ensures
