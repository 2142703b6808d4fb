-- `lent::stretch::clear` meets its contract. Assumes nothing.
use Rattle.lent.proofs.Numbers.{put-zeros}
use Rattle.lent.proofs.stretch.clear.Goals as goal

pub returns : goal.returns
returns g c =
    let n = g.T.Number in let m = g.met.T.Number in
    put-zeros n.num n.nums n.nums_law c.args.s.now _ c.args.from c.args.to _ c.requires (m.zero_law _ c.default.ensures) (c.fill.ensures.after (λ y. m.clone_law _ y))
