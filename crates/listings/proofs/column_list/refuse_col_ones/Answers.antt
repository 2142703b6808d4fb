-- `listings::column_list::refuse_col_ones` meets its contract. Assumes nothing.
use mathlib.Core.Path.{refl}
use Rattle.store_head.proofs.Refuses.{number-told, none_told}
use Rattle.store_head.proofs.QueryPlaces.{list-in}
use Rattle.listings.proofs.QueryColumn.{colones-column, colones-side, colones-phase, colones-spent, colones-answer, colones-is}
use Rattle.listings.proofs.column_list.refuse_col_ones.Goals as goal

pub returns-then-store-c : goal.returns-then-store-c
returns-then-store-c c = number-told _ _ _ (colones-column _ _ c.if-store-c.true)

pub returns-then-store-c-2 : goal.returns-then-store-c-2
returns-then-store-c-2 c = number-told _ _ _ (colones-side _ _ c.if-store-c.false c.if-store-c-2.true)

pub returns-then-not-store : goal.returns-then-not-store
returns-then-not-store c = number-told _ _ _ (colones-phase _ _ c.if-store-c.false c.if-store-c-2.false c.if-not-store.true)

pub returns-then-store-z-ne0 : goal.returns-then-store-z-ne0
returns-then-store-z-ne0 c = number-told _ _ _ (colones-spent _ _ c.if-store-c.false c.if-store-c-2.false c.requires c.if-not-store.false _ _ _ c.column.ensures c.home_column-z.ensures refl c.if-store-z-ne0.true)

pub get-list-requires : goal.get-list-requires
get-list-requires c = list-in _ c.requires _ _ _ _ c.if-store-c-2.false c.column.ensures c.home_column-z.ensures refl c.if-not-store.false

pub returns-then-answers-count_shown : goal.returns-then-answers-count_shown
returns-then-answers-count_shown c = number-told _ _ _ (colones-answer _ _ c.if-store-c.false c.if-store-c-2.false c.requires c.if-not-store.false _ _ _ c.column.ensures c.home_column-z.ensures refl c.if-store-z-ne0.false _ c.get-list.ensures _ c.count_shown.ensures c.if-answers-count_shown.true)

pub returns : goal.returns
returns c = none_told _ _ _ _ (colones-is _ _ c.if-store-c.false c.if-store-c-2.false c.requires c.if-not-store.false _ _ _ c.column.ensures c.home_column-z.ensures refl c.if-store-z-ne0.false _ c.get-list.ensures _ c.count_shown.ensures c.if-answers-count_shown.false _ _ (refl, refl))
