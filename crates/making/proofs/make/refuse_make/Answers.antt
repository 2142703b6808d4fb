-- `making::make::refuse_make` meets its contract. Assumes nothing.
use mathlib.Core.Path.{refl}
use Rattle.making.proofs.Makes.{make-outside, make-short, make-done, make-number, make-none}
use Rattle.making.proofs.make.refuse_make.Goals as goal

pub returns-then-outside_limits : goal.returns-then-outside_limits
returns-then-outside_limits c = make-number _ _ _ (make-outside _ _ _ c.outside_limits.ensures c.if-outside_limits.true)

pub returns-then-too_short : goal.returns-then-too_short
returns-then-too_short c = make-number _ _ _ (make-short _ _ _ _ c.outside_limits.ensures c.if-outside_limits.false c.too_short.ensures c.if-too_short.true)

pub returns : goal.returns
returns c = make-none _ _ _ (make-done _ _ _ _ c.outside_limits.ensures c.if-outside_limits.false c.too_short.ensures c.if-too_short.false _ _ _ _ _ _ _ _ _ _ refl refl refl refl refl refl refl refl refl refl)
