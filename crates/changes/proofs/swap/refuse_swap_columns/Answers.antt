-- `changes::swap::refuse_swap_columns` meets its contract. Assumes nothing.
use mathlib.Core.Path.{refl}
use Rattle.store_head.proofs.Refuses.{number_of, none_of}
use Rattle.changes.proofs.Swaps.{column-i, column-j, tail-i, tail-j, columns-done}
use Rattle.changes.proofs.swap.refuse_swap_columns.Goals as goal

pub returns-then-head-i : goal.returns-then-head-i
returns-then-head-i c = number_of _ _ _ (column-i _ _ c.if-head-i.true)

pub returns-then-head-j : goal.returns-then-head-j
returns-then-head-j c = number_of _ _ _ (column-j _ _ c.if-head-i.false c.if-head-j.true)

pub returns-then-edge-i : goal.returns-then-edge-i
returns-then-edge-i c = number_of _ _ _ (tail-i _ _ c.if-head-i.false c.if-head-j.false c.if-edge-i.true)

pub returns-then-edge-j : goal.returns-then-edge-j
returns-then-edge-j c = number_of _ _ _ (tail-j _ _ c.if-head-i.false c.if-head-j.false c.if-edge-i.false c.if-edge-j.true)

pub returns : goal.returns
returns c = none_of _ _ _ (columns-done _ _ _ _ _ _ refl refl refl refl c.if-edge-i.false c.if-edge-j.false)
