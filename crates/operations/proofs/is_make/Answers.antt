-- `operations::is_make` meets its contract. Assumes nothing.
use Rattle.operations.proofs.Others.{other-than-make}
use Rattle.operations.proofs.is_make.Goals as goal

pub returns-in_default : goal.returns-in_default
returns-in_default c = other-than-make c.args.op c.in_default.not-Make
