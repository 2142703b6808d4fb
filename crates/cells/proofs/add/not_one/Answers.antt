-- `cells::add::not_one` meets its contract. Assumes nothing.
use mathlib.Core.Path.{refl}
use Rattle.cells.proofs.Sums.{no_index, not-single, rises, asked}
use Rattle.cells.proofs.add.not_one.Goals as goal

pub returns-then-not-on : goal.returns-then-not-on
returns-then-not-on c = no_index _ _ _ _ _ c.requires _ c.if-not-on.true

pub returns-then-counts-x-ne1 : goal.returns-then-counts-x-ne1
returns-then-counts-x-ne1 c = not-single _ _ _ _ _ c.requires _ c.if-not-on.false _ refl c.if-counts-x-ne1.true

pub get-requires : goal.get-requires
get-requires c = rw c.numbers.ensures (rises _ _ _ _ _ c.requires _ refl)

pub returns : goal.returns
returns c = asked _ _ _ _ _ c.requires _ c.if-not-on.false _ refl c.if-counts-x-ne1.false _ refl _ (rw c.numbers.ensures at c.get.ensures)
