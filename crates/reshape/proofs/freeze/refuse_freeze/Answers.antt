-- `reshape::freeze::refuse_freeze` meets its contract. Assumes nothing.
use Rattle.reshape.proofs.Freezes.{past-width, not_last, index-off, few_words, free}
use Rattle.reshape.proofs.freeze.refuse_freeze.Goals as goal

pub returns-then-head-c : goal.returns-then-head-c
returns-then-head-c c = past-width _ c.requires _ c.if-head-c.true

pub returns-then-c-head : goal.returns-then-c-head
returns-then-c-head c = not_last _ c.requires _ c.if-head-c.false c.if-c-head.true

pub returns-then-not-head : goal.returns-then-not-head
returns-then-not-head c = index-off _ c.requires _ c.if-head-c.false c.if-c-head.false c.if-not-head.true

pub returns-then-store-wanted : goal.returns-then-store-wanted
returns-then-store-wanted c = few_words _ c.requires _ c.if-head-c.false c.if-c-head.false c.if-not-head.false _ c.words_wanted-wanted.ensures c.if-store-wanted.true

pub returns : goal.returns
returns c = free _ c.requires _ c.if-head-c.false c.if-c-head.false c.if-not-head.false _ c.words_wanted-wanted.ensures c.if-store-wanted.false
