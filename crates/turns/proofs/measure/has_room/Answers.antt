-- `turns::measure::has_room` meets its contract. Assumes nothing.
use Rattle.store_head.specs.Lent.{lent, full_of}
use Rattle.turns.proofs.Longest.{roomy}
use Rattle.turns.proofs.measure.has_room.Goals as goal

pub returns-then-most_long-room : goal.returns-then-most_long-room
returns-then-most_long-room c = roomy (full_of (lent c.args.store.now) c.args.answers.now) c.requires c.args.op _ _ c.most_long.ensures c.if-most_long-room.true
