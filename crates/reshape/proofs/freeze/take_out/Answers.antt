-- `reshape::freeze::take_out` meets its contract. Assumes nothing.
use mathlib.Core.Path.{refl}
use native.Mathlib.Omega.{arith}
use Rattle.reshape.proofs.Freezes.{take_row, lacks, len-low, taken}
use Rattle.reshape.proofs.freeze.take_out.Goals as goal

pub get-requires : goal.get-requires
get-requires c = rw c.numbers.ensures (take_row _ _ _ _ 0 c.requires _ refl).rising

pub returns-then-not-get : goal.returns-then-not-get
returns-then-not-get c = lacks _ _ _ _ _ c.requires _ refl _ (rw c.numbers.ensures at c.get.ensures) c.if-not-get.true

pub remove-len-requires : goal.remove-len-requires
remove-len-requires c = take_row _ _ _ _ 0 c.requires _ refl

pub overflow_cast-counts : goal.overflow_cast-counts
overflow_cast-counts c = omega (arith, len-low _ _ _ _ _ c.requires _ refl _ (rw c.numbers.ensures at c.get.ensures) c.if-not-get.false _ _ c.remove-len.ensures)

pub returns : goal.returns
returns c = taken _ _ _ _ _ c.requires _ refl _ (rw c.numbers.ensures at c.get.ensures) c.if-not-get.false _ _ c.remove-len.ensures
