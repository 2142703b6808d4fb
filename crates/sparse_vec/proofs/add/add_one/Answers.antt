-- `sparse_vec::add::add_one` meets its contract. Assumes nothing.
use Rattle.sparse_vec.proofs.Answers.{at_in, insert-in, one_out, one_in, one-full}
use native.Mathlib.Omega.{arith}
use Rattle.sparse_vec.proofs.add.add_one.Goals as goal

pub key_to_internal_index-requires : goal.key_to_internal_index-requires
key_to_internal_index-requires c = rw c.numbers.ensures c.requires.rising

pub remove_at-requires : goal.remove_at-requires
remove_at-requires c = let s = c.requires in (at_in _ _ _ _ s _ _ (rw c.numbers.ensures at c.in-Ok.ensures), omega arith)

pub overflow_sub-result : goal.overflow_sub-result
overflow_sub-result c = let s = c.requires in omega (arith, at_in _ _ _ _ s _ _ (rw c.numbers.ensures at c.in-Ok.ensures))

pub returns-then-to : goal.returns-then-to
returns-then-to c = let s = c.requires in one-full _ _ _ _ s _ _ (rw c.numbers.ensures at c.in-Err.ensures) (omega arith)

pub insert_at-requires : goal.insert_at-requires
insert_at-requires c = let s = c.requires in let room = s.room in
    (insert-in _ _ _ _ s _ _ (rw c.numbers.ensures at c.in-Err.ensures), omega arith)

pub returns-in-Ok : goal.returns-in-Ok
returns-in-Ok c = let s = c.requires in one_out _ _ _ _ s _ _ _ (rw c.numbers.ensures at c.in-Ok.ensures) c.remove_at.ensures

pub returns-else-to : goal.returns-else-to
returns-else-to c = let s = c.requires in let room = s.room in
    one_in _ _ _ _ s _ _ _ (rw c.numbers.ensures at c.in-Err.ensures) (omega arith) c.insert_at.ensures
