-- `clatterthaw_host::run::clatterthaw_run` meets its contract. Assumes nothing.
use Rattle.model.specs.Store.{Full}
use Rattle.store_head.specs.declared.Numbers.{Numbers}
use Rattle.store_head.specs.Lent.{store_of, full_of}
use Rattle.clatterthaw_host.specs.Crossing.{numbers_of}
use Rattle.clatterthaw_host.proofs.Calls.{run-broken, run-crossed}
use mathlib.Core.Path.{refl, sym, ap, ◌∙◌}
use Rattle.script.specs.Left.{ran_told}
use Rattle.store_head.proofs.Left.{lent-left}
use native.Mathlib.Omega.{arith}
use Rattle.clatterthaw_host.proofs.run.clatterthaw_run.Goals.{Start}
use Rattle.clatterthaw_host.proofs.run.clatterthaw_run.Goals as goal

-- the store as it was lent, over a head
abbrev lent : Start → Numbers → Full
lent c d = full_of (store_of d c.args.slots.now c.args.counts.now c.args.row_homes.now c.args.row_logicals.now c.args.column_homes.now c.args.column_logicals.now c.args.marks.now c.args.starts.now c.args.entries.now c.args.words.now) c.args.answers.now

pub returns-then-p-gt1 : goal.returns-then-p-gt1
returns-then-p-gt1 c = rw c.number.ensures (run-broken c.args.p c.args.records.now c.args.lines.now (lent (goal.at.returns-then-p-gt1 c).Start (numbers_of c.args.p)) (omega arith) _ refl _ refl)

pub returns : goal.returns
returns c = run-crossed c.args.p c.args.records.now c.args.lines.now (lent (goal.at.returns c).Start) c.head.result c.head.ensures (omega arith) _ (λ z. refl) refl _ _ c.run-told.result c.ran.result c.ran.ensures (sym (ap (λ s. ran_told c.run-told.result (full_of s c.run-told.new.answers) c.run-told.new.lines) (lent-left _ _ c.run-told.ensures.same _ _ _ _ _ _ _ _ _ _ c.slots-1.given.1.1 c.counts-1.given.1.1 c.row_homes-1.given.1.1 c.row_logicals-1.given.1.1 c.column_homes-1.given.1.1 c.column_logicals-1.given.1.1 c.marks-1.given.1.1 c.starts-1.given.1.1 c.entries-1.given.1.1 c.words-1.given.1.1)) ∙ c.run-told.ensures.told)
