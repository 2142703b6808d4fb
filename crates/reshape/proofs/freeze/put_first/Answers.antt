-- `reshape::freeze::put_first` meets its contract. Assumes nothing.
use Rattle.reshape.proofs.Freezes.{not-put, put}
use Rattle.reshape.proofs.freeze.put_first.Goals as goal

pub returns-then-not-had : goal.returns-then-not-had
returns-then-not-had c = not-put _ _ _ c.args.had c.requires c.if-not-had.true

pub returns : goal.returns
returns c = put _ _ _ c.args.had c.requires c.if-not-had.false _ c.put.ensures
