-- `changes::swap::refuse_swap_rows` meets its contract. Assumes nothing.
use mathlib.Core.Path.{refl}
use Rattle.store_head.proofs.Refuses.{number_of, none_of}
use Rattle.changes.proofs.Swaps.{row-i, row-j, rows-done}
use Rattle.changes.proofs.swap.refuse_swap_rows.Goals as goal

pub returns-then-head-i : goal.returns-then-head-i
returns-then-head-i c = number_of _ _ _ (row-i _ _ c.if-head-i.true)

pub returns-then-head-j : goal.returns-then-head-j
returns-then-head-j c = number_of _ _ _ (row-j _ _ c.if-head-i.false c.if-head-j.true)

pub returns : goal.returns
returns c = none_of _ _ _ (rows-done _ _ _ _ refl refl c.if-head-i.false c.if-head-j.false)
