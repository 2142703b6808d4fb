-- `queries::row_tail::sub_row_in` meets its contract. Assumes nothing.
use mathlib.Core.Path.{refl}
use Rattle.queries.proofs.QueryWords.{none_row, none-side, part-are}
use Rattle.store_head.proofs.QueryPlaces.{words-in}
use Rattle.queries.proofs.row_tail.sub_row_in.Goals.{then-head-r-via-then-head-r, then-head-r-via-else-head-r+then-a-head}
use Rattle.queries.proofs.row_tail.sub_row_in.Goals as goal

pub returns-then-head-r : goal.returns-then-head-r
returns-then-head-r c = elim c.then-head-r.branch [
  | then-head-r-via-then-head-r w ↦ none_row _ _ w.if-head-r.true
  | then-head-r-via-else-head-r+then-a-head w ↦ none-side _ _ w.if-head-r.false w.if-a-head.true
]

pub row_words-requires : goal.row_words-requires
row_words-requires c = rw c.words_for.ensures (words-in _ c.requires _ _ c.if-head-r.false c.home_row-y.ensures _ refl)

pub returns : goal.returns
returns c = part-are _ _ c.if-head-r.false c.requires _ _ _ c.home_row-y.ensures c.words_for.ensures c.row_words.ensures.part c.if-a-head.false c.row_words.ensures.fit
