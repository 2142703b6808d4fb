-- `lent::stretch::move_stretch` meets its contract. Assumes nothing.
use Rattle.lent.proofs.Numbers.{copied}
use Rattle.lent.proofs.stretch.move_stretch.Goals as goal

pub returns : goal.returns
returns g c = let n = g.T.Number in copied n.num n.nums n.nums_law c.args.s.now _ c.args.from c.args.to c.args.n c.requires c.copy_within.ensures.after
