-- `queries::row_tail::get_sub_row_in` meets its contract. Assumes nothing.
use mathlib.Core.Path.{refl}
use mathlib.Core.List.{[]}
use Rattle.store_head.specs.Lent.{seen, full_of}
use Rattle.queries.proofs.QueryWords.{words_row, words-side, words_are, words-stand}
use Rattle.store_head.proofs.QueryPlaces.{words-in}
use Rattle.queries.proofs.row_tail.get_sub_row_in.Goals as goal

pub returns-then-store-r-clause-told : goal.returns-then-store-r-clause-told
returns-then-store-r-clause-told c = words_row _ _ c.if-store-r.true

pub returns-then-a-store-clause-told : goal.returns-then-a-store-clause-told
returns-then-a-store-clause-told c = words-side _ _ c.if-store-r.false c.if-a-store.true

pub row_words-requires : goal.row_words-requires
row_words-requires c = rw c.words_for.ensures (words-in _ c.requires _ _ c.if-store-r.false c.home_row-y.ensures _ refl)

pub returns-clause-told : goal.returns-clause-told
returns-clause-told c = words_are _ _ c.if-store-r.false c.requires _ _ _ c.home_row-y.ensures c.words_for.ensures c.row_words.ensures.part c.if-a-store.false c.row_words.ensures.fit

pub returns-clause-place : goal.returns-clause-place
returns-clause-place c = words-stand (record { r = c.args.r; a = c.args.a }) (full_of (seen c.args.store.now) []) c.if-store-r.false c.requires _ _ _ c.home_row-y.ensures c.words_for.ensures c.row_words.ensures.part
