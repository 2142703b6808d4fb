-- `arraymap::rows::HomeRows::row` meets its contract. Assumes nothing.
use Rattle.arraymap.proofs.Stretches.{row_is}
use Rattle.arraymap.proofs.rows.HomeRows.row.Goals as goal

pub returns-clause-is : goal.returns-clause-is
returns-clause-is c = row_is _ _ _ _

pub returns-clause-ok : goal.returns-clause-ok
returns-clause-ok c = rw (row_is c.args.self.now.slots.now c.args.self.now.counts.now c.args.self.now.k c.args.y) (c.args.self.now.right.row _ c.requires)
