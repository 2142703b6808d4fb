-- `operations::call` meets its contract. Assumes nothing.
use mathlib.Core.Path.{refl}
use Rattle.std.specs.Prelude.{Err}
use Rattle.store_head.specs.Lent.{lent}
use Rattle.operations.specs.Applied.{form, part_at}
use Rattle.operations.proofs.Checks.{stopped, go-ok, gone}
use Rattle.operations.proofs.call.Goals as goal

pub returns-in-Err-clause-told : goal.returns-in-Err-clause-told
returns-in-Err-clause-told c = stopped _ _ (form c.args.op) (part_at c.args.op (lent c.args.store.now)) _ (Err _) _ refl c.in-Err.ensures

pub apply-requires : goal.apply-requires
apply-requires c = go-ok c.args.op _ c.in-Ok.ensures

pub returns-in-Ok-clause-told : goal.returns-in-Ok-clause-told
returns-in-Ok-clause-told c = gone c.args.op _ c.in-Ok.ensures _ _ c.apply.ensures.told
