-- `cells::set::change_list` meets its contract. Assumes nothing.
use mathlib.Core.Bool.{true, false}
use Rattle.cells.proofs.RowChanges.{insert-can, list-told}
use Rattle.cells.proofs.set.change_list.Goals as goal

pub insert-requires : goal.insert-requires
insert-requires c = insert-can _ _ _ _ _ _ c.if-v.true c.requires

pub remove-requires : goal.remove-requires
remove-requires c = c.requires.row

pub returns-then-v : goal.returns-then-v
returns-then-v c = list-told _ _ _ _ _ _ true c.if-v.true _ _ c.insert.ensures

pub returns-else-v : goal.returns-else-v
returns-else-v c = list-told _ _ _ _ _ _ false c.if-v.false _ _ c.remove.ensures
