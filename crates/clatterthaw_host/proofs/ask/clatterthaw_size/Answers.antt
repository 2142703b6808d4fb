-- `clatterthaw_host::ask::clatterthaw_size` meets its contract. Assumes nothing.
use mathlib.Core.List.{[]}
use Rattle.table.specs.declared.Op.{Op}
use Rattle.table.specs.declared.Op.TheVariants as op
use Rattle.model.specs.Store.{Full}
use Rattle.store_head.specs.declared.Numbers.{Numbers}
use Rattle.store_head.specs.Lent.{store_of, full_of}
use Rattle.clatterthaw_host.specs.Crossing.{numbers_of}
use Rattle.clatterthaw_host.proofs.Calls.{size-broken, size-crossed, whole-head}
use mathlib.Core.Path.{refl}
use Rattle.clatterthaw_host.proofs.ask.clatterthaw_size.Goals.{Start}
use Rattle.clatterthaw_host.proofs.ask.clatterthaw_size.Goals as goal

-- the operation, and the store as it was lent, over a head
abbrev asked : Start → Op
asked c = op.Size

abbrev lent : Start → Numbers → Full
lent c d = full_of (store_of d c.args.slots.now c.args.counts.now c.args.row_homes.now c.args.row_logicals.now c.args.column_homes.now c.args.column_logicals.now c.args.marks.now c.args.starts.now c.args.entries.now c.args.words.now) []

pub returns-then-p-gt1 : goal.returns-then-p-gt1
returns-then-p-gt1 c = rw c.number.ensures (size-broken c.args.p (asked (goal.at.returns-then-p-gt1 c).Start) (lent (goal.at.returns-then-p-gt1 c).Start (numbers_of c.args.p)) refl c.if-p-gt1.true)

pub returns : goal.returns
returns c = size-crossed c.args.p (asked (goal.at.returns c).Start) (lent (goal.at.returns c).Start) c.head.result c.head.ensures (whole-head c.args.p (asked (goal.at.returns c).Start) (lent (goal.at.returns c).Start (numbers_of c.args.p)) c.if-p-gt1.false) c.size.result c.size-2.result c.size-2.ensures c.size.ensures
