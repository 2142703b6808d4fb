-- `sparse_vec::change::insert` meets its contract. Assumes nothing.
use Rattle.sparse_vec.proofs.Answers.{insert-in, insert-old, insert-room, insert-new}
use mathlib.Core.Path.{sym, ◌∙◌}
use native.Mathlib.Omega.{arith}
use Rattle.sparse_vec.proofs.change.insert.Goals as goal

pub key_to_internal_index-requires : goal.key_to_internal_index-requires
key_to_internal_index-requires c = rw c.numbers.ensures c.requires.row.rising

pub insert_at-requires : goal.insert_at-requires
insert_at-requires c = let s = c.requires in let g = rw c.numbers.ensures at c.in-Err.ensures in
    (insert-in _ _ _ _ s.row _ _ g, omega (arith, insert-room _ _ _ _ s.row _ _ g s.more, s.row.fits))

pub returns-in_default : goal.returns-in_default
returns-in_default c = let s = c.requires in insert-old _ _ _ _ s.row _ _ (rw c.numbers.ensures at (sym c.in_default.is ∙ c.key_to_internal_index.ensures))

pub returns : goal.returns
returns c = let s = c.requires in insert-new _ _ _ _ s.row _ _ _ (rw c.numbers.ensures at c.in-Err.ensures) s.more c.insert_at.ensures
