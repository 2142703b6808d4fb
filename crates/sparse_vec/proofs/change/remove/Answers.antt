-- `sparse_vec::change::remove` meets its contract. Assumes nothing.
use Rattle.sparse_vec.proofs.Answers.{at_in, remove-old, remove-none}
use mathlib.Core.Path.{sym, ◌∙◌}
use native.Mathlib.Omega.{arith}
use Rattle.sparse_vec.proofs.change.remove.Goals as goal

pub key_to_internal_index-requires : goal.key_to_internal_index-requires
key_to_internal_index-requires c = rw c.numbers.ensures c.requires.rising

pub remove_at-requires : goal.remove_at-requires
remove_at-requires c = let s = c.requires in (at_in _ _ _ _ s _ _ (rw c.numbers.ensures at c.in-Ok.ensures), omega arith)

pub overflow_sub-result : goal.overflow_sub-result
overflow_sub-result c = let s = c.requires in omega (arith, at_in _ _ _ _ s _ _ (rw c.numbers.ensures at c.in-Ok.ensures))

pub returns : goal.returns
returns c = let s = c.requires in remove-old _ _ _ _ s _ _ _ (rw c.numbers.ensures at c.in-Ok.ensures) c.remove_at.ensures

pub returns-in_default : goal.returns-in_default
returns-in_default c = let s = c.requires in remove-none _ _ _ _ s _ _ (rw c.numbers.ensures at (sym c.in_default.is ∙ c.key_to_internal_index.ensures))
