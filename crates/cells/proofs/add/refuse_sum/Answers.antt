-- `cells::add::refuse_sum` meets its contract. Assumes nothing.
use mathlib.Core.Path.{refl}
use Rattle.cells.proofs.Sums.{can-add, refuses-one, sum_fits, sum-full}
use Rattle.cells.proofs.add.refuse_sum.Goals as goal

pub returns-then-not_one : goal.returns-then-not_one
returns-then-not_one c = refuses-one _ _ _ _ _ _ _ c.not_one.ensures c.if-not_one.true

pub sum_fits-requires : goal.sum_fits-requires
sum_fits-requires c = can-add _ _ _ _ _ c.requires _ _ refl refl

pub returns : goal.returns
returns c = sum_fits _ _ _ _ _ c.requires _ _ refl refl _ _ c.not_one.ensures c.if-not_one.false _ c.sum_fits.ensures c.if-not-sum_fits.false

pub returns-then-not-sum_fits : goal.returns-then-not-sum_fits
returns-then-not-sum_fits c = sum-full _ _ _ _ _ c.requires _ _ refl refl _ _ c.not_one.ensures c.if-not_one.false _ c.sum_fits.ensures c.if-not-sum_fits.true
