use borrow.Author.Rules.{rules}
use Rattle.permutation.specs.Maps.{swapped}
use Rattle.reshape.proofs.resize.trade_lists.Goals as goal

pub returns : goal.returns
unfolding swapped
returns c = search rules
