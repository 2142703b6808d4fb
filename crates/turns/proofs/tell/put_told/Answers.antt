-- `turns::tell::put_told` meets its contract. Assumes nothing.
use Rattle.turns.proofs.Saying.{list-room, list-wrote, words-room, words-wrote}
use Rattle.turns.proofs.tell.put_told.Goals as goal

pub put_list-requires : goal.put_list-requires
put_list-requires c = list-room _ _ _ _ _ _ c.requires _ c.in-Ok-List.is (rw c.in-Ok-List.is at c.in-Ok-List.field-0-is)

pub put_list-requires-in-Ok-Words : goal.put_list-requires-in-Ok-Words
put_list-requires-in-Ok-Words c = words-room _ _ _ _ _ _ c.requires _ c.in-Ok-Words.is (rw c.in-Ok-Words.is at c.in-Ok-Words.field-0-is)

pub returns-in-Ok-List : goal.returns-in-Ok-List
returns-in-Ok-List c = list-wrote _ _ _ _ _ _ c.requires _ c.in-Ok-List.is (rw c.in-Ok-List.is at c.in-Ok-List.field-0-is) _ c.put_list.ensures

pub returns-in-Ok-Words : goal.returns-in-Ok-Words
returns-in-Ok-Words c = words-wrote _ _ _ _ _ _ c.requires _ c.in-Ok-Words.is (rw c.in-Ok-Words.is at c.in-Ok-Words.field-0-is) _ c.put_list-in-Ok-Words.ensures
