-- `store_check::rows::rows_ok` meets its contract. Assumes nothing.
use native.Mathlib.Omega.{arith}
use Rattle.std.proofs.Common.{◌≡◌, refl, true, false, rules}
use Rattle.std.proofs.lemmas.Iterator.{cases_from_all, YieldsList-from_range}
use Rattle.model.specs.Check.{row_at}
use Rattle.store_head.specs.Lent.{seen}
use Rattle.store_check.proofs.Pieces.{all-told}
use Rattle.store_check.proofs.rows.rows_ok.Goals as goal

pub returns : goal.returns
returns c = all-told _ _ _
    (cases_from_all _ _ _ (λ y. row_at (seen c.args.store.now) y ≡ true) (λ y. row_at (seen c.args.store.now) y ≡ false) c.all.ensures.ran
    (YieldsList-from_range 0 _ c.args.store.now.head.h refl (omega arith)) (λ x q k. search rules) (λ x q k. search rules))
