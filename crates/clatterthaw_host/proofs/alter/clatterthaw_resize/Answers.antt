-- `clatterthaw_host::alter::clatterthaw_resize` meets its contract. Assumes nothing.
use mathlib.Core.List.{[]}
use Rattle.table.specs.declared.Op.{Op}
use Rattle.table.specs.declared.Op.TheVariants as op
use Rattle.model.specs.Store.{Full}
use Rattle.store_head.specs.declared.Numbers.{Numbers}
use Rattle.store_head.specs.Lent.{store_of, full_of}
use Rattle.clatterthaw_host.specs.Crossing.{numbers_of}
use Rattle.clatterthaw_host.proofs.Calls.{change-broken, change-crossed, whole-head}
use mathlib.Core.Path.{refl, sym, ap, ◌∙◌}
use Rattle.store_head.specs.Told.{change_told}
use Rattle.store_head.proofs.Left.{shape-left}
use Rattle.clatterthaw_host.proofs.alter.clatterthaw_resize.Goals.{Start}
use Rattle.clatterthaw_host.proofs.alter.clatterthaw_resize.Goals as goal

-- the operation, and the store as it was lent, over a head
abbrev asked : Start → Op
asked c = op.Resize (record { h = c.args.h; w = c.args.w })

abbrev lent : Start → Numbers → Full
lent c d = full_of (store_of d c.args.slots.now c.args.counts.now c.args.row_homes.now c.args.row_logicals.now c.args.column_homes.now c.args.column_logicals.now c.args.marks.now c.args.starts.now c.args.entries.now c.args.words.now) []

pub returns-then-p-gt1 : goal.returns-then-p-gt1
returns-then-p-gt1 c = rw c.number.ensures (change-broken c.args.p (asked (goal.at.returns-then-p-gt1 c).Start) (lent (goal.at.returns-then-p-gt1 c).Start (numbers_of c.args.p)) refl c.if-p-gt1.true _ refl)

pub returns : goal.returns
returns c = change-crossed c.args.p (asked (goal.at.returns c).Start) (lent (goal.at.returns c).Start) c.head.result c.head.ensures (whole-head c.args.p (asked (goal.at.returns c).Start) (lent (goal.at.returns c).Start (numbers_of c.args.p)) c.if-p-gt1.false) _ (λ z. refl) refl _ c.resize-told.result c.changed.result c.changed.ensures (sym (ap (change_told _) (shape-left _ _ c.resize-told.ensures.same _ _ _ _ _ c.slots-1.given.1.1 c.counts-1.given.1.1 c.row_homes-1.given.1.1 c.row_logicals-1.given.1.1 c.words-1.given.1.1)) ∙ c.resize-told.ensures.told)
