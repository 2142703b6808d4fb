-- `cells::set::has_room` meets its contract. Assumes nothing.
use Rattle.cells.proofs.RowChanges.{row-rises, room_out, room-left, room-same}
use mathlib.Core.Path.{ap}
use mathlib.Core.Bool.{not}
use Rattle.cells.proofs.set.has_room.Goals as goal

pub returns-then-not-v : goal.returns-then-not-v
returns-then-not-v c = room_out _ _ _ _ c.requires c.args.z c.args.v (ap not c.if-not-v.true)

pub bounds-counts-y : goal.bounds-counts-y
bounds-counts-y c = c.requires.counted

pub returns-then-len-k : goal.returns-then-len-k
returns-then-len-k c = room-left _ _ _ _ c.requires c.args.z c.args.v (ap not c.if-not-v.false) c.if-len-k.true

pub get-requires : goal.get-requires
get-requires c = rw c.numbers.ensures (row-rises _ _ _ _ c.requires)

pub returns : goal.returns
returns c = room-same _ _ _ _ c.requires c.args.z c.args.v (ap not c.if-not-v.false) _ (rw c.numbers.ensures at c.get.ensures) c.if-len-k.false
