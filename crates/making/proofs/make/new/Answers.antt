-- `making::make::new` meets its contract. Assumes nothing.
use mathlib.Core.Path.{refl}
use Rattle.laws.specs.Parts.{zeros}
use Rattle.store_head.proofs.Refuses.{seen-refused}
use Rattle.making.proofs.Makes.{make-refused, rows-number, columns-number, make-done, made-can, inside, long-enough}
use Rattle.making.proofs.make.new.Goals as goal

pub returns-in_err-refuse_make-clause-told : goal.returns-in_err-refuse_make-clause-told
returns-in_err-refuse_make-clause-told c = make-refused _ _ _ _ c.from_residual.ensures.1 (seen-refused _ _ _ c.view.ensures _ c.in_err-refuse_make.ensures)

pub make_identity-requires : goal.make_identity-requires
make_identity-requires c = let m = made-can _ _ (seen-refused _ _ _ c.view.ensures _ c.in_ok-refuse_make.ensures) in rows-number _ _ m.row-homes m.height

pub make_identity-requires-2 : goal.make_identity-requires-2
make_identity-requires-2 c = let m = made-can _ _ (seen-refused _ _ _ c.view.ensures _ c.in_ok-refuse_make.ensures) in rows-number _ _ m.row-logicals m.height

pub make_identity-requires-3 : goal.make_identity-requires-3
make_identity-requires-3 c = let m = made-can _ _ (seen-refused _ _ _ c.view.ensures _ c.in_ok-refuse_make.ensures) in columns-number _ _ m.column-homes m.width

pub make_identity-requires-4 : goal.make_identity-requires-4
make_identity-requires-4 c = let m = made-can _ _ (seen-refused _ _ _ c.view.ensures _ c.in_ok-refuse_make.ensures) in columns-number _ _ m.column-logicals m.width

pub returns-clause-told : goal.returns-clause-told
unfolding zeros
returns-clause-told c = let free = (seen-refused _ _ _ c.view.ensures _ c.in_ok-refuse_make.ensures) in make-done _ _ _ _ refl (inside _ _ free) refl (long-enough _ _ free) _ _ _ _ _ _ _ _ _ _ (c.fill.ensures.after (λ y e. e)) (c.fill-2.ensures.after (λ y e. e)) (c.fill-3.ensures.after (λ y e. e)) (c.fill-4.ensures.after (λ y e. e)) (c.fill-5.ensures.after (λ y e. e)) (c.fill-6.ensures.after (λ y e. e)) c.make_identity.ensures c.make_identity-2.ensures c.make_identity-3.ensures c.make_identity-4.ensures
