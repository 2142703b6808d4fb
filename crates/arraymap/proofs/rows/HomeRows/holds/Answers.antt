-- `arraymap::rows::HomeRows::holds` meets its contract. Assumes nothing.
use borrow.Author.Rules.{rules}
use Rattle.arraymap.proofs.Stretches.{too_wide}
use Rattle.arraymap.proofs.rows.HomeRows.holds.Goals as goal

pub returns-in-Err : goal.returns-in-Err
returns-in-Err c = too_wide c.row-row.result.now _ _ c.row-row.ensures.is (search rules) c.in-Err.ensures
