-- `cells::set::refuse_set` meets its contract. Assumes nothing.
use mathlib.Core.Path.{refl}
use Rattle.table.specs.declared.SetCell.{SetCell}
use Rattle.model.specs.Store.{Store}
use Rattle.store_head.specs.Lent.{seen}
use Rattle.cells.specs.Cells.{place}
use Rattle.store_head.proofs.Refuses.{number_of, none_of}
use Rattle.cells.proofs.Sets.{set-row, set-column, set-phase, set-tail, column-in, row_kept, set_full, set-sparse}
use mathlib.Core.Path.{ap}
use mathlib.Core.Bool.{not}
use Rattle.cells.proofs.set.refuse_set.Goals.{Start}
use Rattle.cells.proofs.set.refuse_set.Goals as goal

-- the place asked for, and the store as it was lent
abbrev asked : Start → SetCell
asked c = place c.args.r c.args.c c.args.v

abbrev entry : Start → Store
entry c = seen c.args.store.now

pub returns-then-head-r : goal.returns-then-head-r
returns-then-head-r c = number_of _ _ _ (set-row _ _ c.if-head-r.true)

pub returns-then-head-c : goal.returns-then-head-c
returns-then-head-c c = number_of _ _ _ (set-column _ _ c.if-head-r.false c.if-head-c.true)

pub returns-then-head-c-2 : goal.returns-then-head-c-2
returns-then-head-c-2 c = none_of _ _ _ (set-tail _ _ c.if-head-r.false c.requires c.if-head-c.false c.if-head-c-2.true _ refl _ refl)

pub returns-then-head : goal.returns-then-head
returns-then-head c = number_of _ _ _ (set-phase _ _ c.if-head-r.false c.if-head-c-2.false c.if-head.true)

pub home_column-z-requires : goal.home_column-z-requires
home_column-z-requires c = column-in (entry (goal.at.home_column-z-requires c).Start) (asked (goal.at.home_column-z-requires c).Start) c.if-head-r.false c.requires c.if-head-c-2.false _ c.column.ensures

pub has_room-requires : goal.has_room-requires
has_room-requires c = row_kept (entry (goal.at.has_room-requires c).Start) (asked (goal.at.has_room-requires c).Start) c.if-head-r.false c.requires _ c.home_row-y.ensures

pub returns-then-not-has_room : goal.returns-then-not-has_room
returns-then-not-has_room c = number_of _ _ _ (set_full _ _ c.if-head-r.false c.requires c.if-head-c-2.false _ _ _ c.home_row-y.ensures c.column.ensures c.home_column-z.ensures c.if-head.false _ c.has_room.ensures (ap not c.if-not-has_room.true))

pub returns : goal.returns
returns c = none_of _ _ _ (set-sparse _ _ c.if-head-r.false c.requires c.if-head-c-2.false _ _ _ c.home_row-y.ensures c.column.ensures c.home_column-z.ensures c.if-head.false _ c.has_room.ensures (ap not c.if-not-has_room.false) _ _ (refl, refl))
