-- `reshape::resize::refuse_resize` meets its contract. Assumes nothing.
use Rattle.reshape.proofs.Resizes.{higher, wider, tears, index_on, free}
use Rattle.reshape.proofs.resize.refuse_resize.Goals as goal

pub returns-then-head-h : goal.returns-then-head-h
returns-then-head-h c = higher _ _ c.if-head-h.true

pub returns-then-head-w : goal.returns-then-head-w
returns-then-head-w c = wider _ _ c.if-head-h.false c.if-head-w.true

pub returns-then-splits : goal.returns-then-splits
returns-then-splits c = tears _ _ c.if-head-h.false c.if-head-w.false _ c.splits.ensures c.if-splits.true

pub returns-then-head : goal.returns-then-head
returns-then-head c = index_on _ _ c.if-head-h.false c.if-head-w.false _ c.splits.ensures c.if-splits.false c.if-head.true

pub returns : goal.returns
returns c = free _ _ c.if-head-h.false c.if-head-w.false _ c.splits.ensures c.if-splits.false c.if-head.false
