-- `listings::row_lists::refuse_iter` meets its contract. Assumes nothing.
use mathlib.Core.Path.{refl}
use Rattle.store_head.proofs.Refuses.{number-told, none_told}
use Rattle.store_head.proofs.QueryPlaces.{in-slots, row-mapped}
use Rattle.listings.proofs.QueryLists.{iter-row, iter-side, iter-answer, iter-is}
use Rattle.listings.proofs.row_lists.refuse_iter.Goals as goal

pub returns-then-store-r : goal.returns-then-store-r
returns-then-store-r c = number-told _ _ _ (iter-row _ _ c.if-store-r.true)

pub returns-then-store-b : goal.returns-then-store-b
returns-then-store-b c = number-told _ _ _ (iter-side _ _ c.if-store-r.false c.if-store-b.true)

pub row-row-requires : goal.row-row-requires
row-row-requires c = in-slots _ c.requires _ _ c.if-store-r.false c.home_row-y.ensures

pub count_in-requires : goal.count_in-requires
count_in-requires c = row-mapped _ c.requires _ _ c.if-store-r.false c.home_row-y.ensures _ c.row-row.ensures

pub returns-then-answers-count_in : goal.returns-then-answers-count_in
returns-then-answers-count_in c = number-told _ _ _ (iter-answer _ _ c.if-store-r.false c.requires c.if-store-b.false _ _ c.home_row-y.ensures c.row-row.ensures _ c.count_in.ensures c.if-answers-count_in.true)

pub returns : goal.returns
returns c = none_told _ _ _ _ (iter-is _ _ c.if-store-r.false c.requires c.if-store-b.false _ _ c.home_row-y.ensures c.row-row.ensures _ c.count_in.ensures c.if-answers-count_in.false _ _ (refl, refl))
