-- `operations::is_question` meets its contract. Assumes nothing.
use Rattle.operations.proofs.Others.{no-question-told}
use Rattle.operations.proofs.is_question.Goals as goal

pub returns-in_default : goal.returns-in_default
returns-in_default c = no-question-told c.args.op c.in_default.not-Get c.in_default.not-Count c.in_default.not-Words c.in_default.not-TailOnes c.in_default.not-Iter c.in_default.not-ColOnes c.in_default.not-Size
