-- `cells::add::refuse_add` meets its contract. Assumes nothing.
use Rattle.cells.proofs.Adds.{row-d, row-s, start-side, same_row, tail-start, can-sum, sum-start}
use Rattle.cells.proofs.add.refuse_add.Goals as goal

pub returns-then-head-d : goal.returns-then-head-d
returns-then-head-d c = row-d _ c.requires _ c.if-head-d.true

pub returns-then-head-s : goal.returns-then-head-s
returns-then-head-s c = row-s _ c.requires _ c.if-head-d.false c.if-head-s.true

pub returns-then-aside : goal.returns-then-aside
returns-then-aside c = start-side _ c.requires _ c.if-head-d.false c.if-head-s.false _ c.aside.ensures c.if-aside.true

pub returns-then-d-s : goal.returns-then-d-s
returns-then-d-s c = same_row _ c.requires _ c.if-head-d.false c.if-head-s.false _ c.aside.ensures c.if-aside.false c.if-d-s.true

pub returns-then-start-ne0 : goal.returns-then-start-ne0
returns-then-start-ne0 c = tail-start _ c.requires _ c.if-head-d.false c.if-head-s.false _ c.aside.ensures c.if-aside.false c.if-d-s.false c.if-start-ne0.true

pub refuse_sum-requires : goal.refuse_sum-requires
refuse_sum-requires c = can-sum _ c.requires _ _ c.if-head-d.false c.if-head-s.false c.if-d-s.false _ _ c.home_row-y.ensures c.home_row-x.ensures

pub returns : goal.returns
returns c = sum-start _ c.requires _ c.if-head-d.false c.if-head-s.false _ c.aside.ensures c.if-aside.false c.if-d-s.false c.if-start-ne0.false _ _ _ c.home_row-y.ensures c.home_row-x.ensures c.refuse_sum.ensures
