-- `cells::add::spend` meets its contract. Assumes nothing.
use mathlib.Core.Path.{refl}
use native.Mathlib.Omega.{arith}
use Rattle.cells.proofs.Sums.{no_rows, no-marks, marked}
use Rattle.cells.proofs.add.spend.Goals as goal

pub returns-then-not-all : goal.returns-then-not-all
returns-then-not-all c = no_rows _ _ _ _ _ _ c.requires c.if-not-all.true

pub returns-then-not-on : goal.returns-then-not-on
returns-then-not-on c = no-marks _ _ _ _ _ _ c.requires c.if-not-all.false c.if-not-on.true

pub overflow_mul-z : goal.overflow_mul-z
overflow_mul-z c = omega (arith, c.requires.place c.if-not-all.false c.if-not-on.false)

pub offset_bounds-slots-x : goal.offset_bounds-slots-x
offset_bounds-slots-x c = omega (arith, c.requires.place c.if-not-all.false c.if-not-on.false)

pub bounds-slots-x : goal.bounds-slots-x
bounds-slots-x c = c.requires.place c.if-not-all.false c.if-not-on.false

pub bounds-marks-z : goal.bounds-marks-z
bounds-marks-z c = c.requires.mark c.if-not-all.false c.if-not-on.false

pub returns : goal.returns
returns c = marked _ _ _ _ _ _ c.requires c.if-not-all.false c.if-not-on.false _ refl
