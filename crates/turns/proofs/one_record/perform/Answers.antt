-- `turns::one_record::perform` meets its contract. Assumes nothing.
use mathlib.Core.Path.{sym, ◌∙◌}
use Rattle.store_head.specs.Lent.{lent, full_of}
use Rattle.turns.proofs.Saying.{stopped, can-put, gone}
use Rattle.turns.proofs.one_record.perform.Goals as goal

pub returns-then-not-has_room-clause-told : goal.returns-then-not-has_room-clause-told
returns-then-not-has_room-clause-told c = stopped c.args.op (full_of (lent c.args.store.now) c.args.answers.now) c.requires _ c.args.lines.now (rw (sym c.room.ensures) (sym c.has_room.ensures ∙ c.if-not-has_room.true))

pub put_told-requires : goal.put_told-requires
put_told-requires c = can-put c.args.op (full_of (lent c.args.store.now) c.args.answers.now) c.requires _ _ _ c.apply-told.ensures.told c.args.lines.now _ c.part_at-from.ensures (rw (sym c.room.ensures) (sym c.has_room.ensures ∙ c.if-not-has_room.false))

pub returns-clause-told : goal.returns-clause-told
returns-clause-told c = gone c.args.op (full_of (lent c.args.store.now) c.args.answers.now) c.requires _ _ _ c.apply-told.ensures.told c.args.lines.now _ c.part_at-from.ensures (rw (sym c.room.ensures) (sym c.has_room.ensures ∙ c.if-not-has_room.false)) _ _ c.put_told.ensures
