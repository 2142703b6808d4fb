-- `row_words` meets its contract. Assumes nothing.
use Rattle.laws.proofs.Parts.{part-is}
use Rattle.tail.proofs.rows.row_words.Goals as goal

pub returns-clause-part : goal.returns-clause-part
returns-clause-part c = part-is _ _ _

pub returns-clause-fit : goal.returns-clause-fit
returns-clause-fit c i = (c.type_inv.ws i).fits
