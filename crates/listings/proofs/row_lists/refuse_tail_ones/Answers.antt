-- `listings::row_lists::refuse_tail_ones` meets its contract. Assumes nothing.
use mathlib.Core.Path.{refl}
use Rattle.store_head.proofs.Refuses.{number-told, none_told}
use Rattle.store_head.proofs.QueryPlaces.{tail-in}
use Rattle.listings.proofs.QueryLists.{tail-row, tail-side, tail_none, tail-answer, tail-is}
use Rattle.listings.proofs.row_lists.refuse_tail_ones.Goals as goal

pub returns-then-store-r : goal.returns-then-store-r
returns-then-store-r c = number-told _ _ _ (tail-row _ _ c.if-store-r.true)

pub returns-then-a-store : goal.returns-then-a-store
returns-then-a-store c = number-told _ _ _ (tail-side _ _ c.if-store-r.false c.if-a-store.true)

pub returns-then-store-eq0 : goal.returns-then-store-eq0
returns-then-store-eq0 c = number-told _ _ _ (tail_none _ _ c.if-store-r.false c.if-store-eq0.true)

pub count-requires : goal.count-requires
count-requires c = tail-in _ c.requires _ _ c.if-store-r.false c.home_row-y.ensures _ refl

pub returns-then-answers-count : goal.returns-then-answers-count
returns-then-answers-count c = number-told _ _ _ (tail-answer _ _ c.if-store-r.false c.requires c.if-a-store.false c.if-store-eq0.false _ _ c.home_row-y.ensures refl _ c.count.ensures c.if-answers-count.true)

pub returns : goal.returns
returns c = none_told _ _ _ _ (tail-is _ _ c.if-store-r.false c.requires c.if-a-store.false c.if-store-eq0.false _ _ c.home_row-y.ensures refl _ c.count.ensures c.if-answers-count.false _ _ (refl, refl))
