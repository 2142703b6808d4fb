-- `arraymap::listed::Listed::list` meets its contract. Assumes nothing.
use Rattle.arraymap.proofs.Tests.{span-list, list-rising, list-below}
use Rattle.arraymap.proofs.listed.Listed.list.Goals as goal

pub get-requires : goal.get-requires
get-requires c = span-list _ _ _ c.args.self.now.right.span _ c.requires

pub returns-clause-rising : goal.returns-clause-rising
returns-clause-rising c = list-rising _ _ _ _ c.get.ensures _ _ c.args.self.now.right c.requires

pub returns-clause-below : goal.returns-clause-below
returns-clause-below c = list-below _ _ _ _ c.get.ensures _ _ c.args.self.now.right c.requires
