-- `sparse_vec::add::sum_fits` meets its contract. Assumes nothing.
use Rattle.sparse_vec.proofs.Adding.{fits-at-once, sum-counted}
use mathlib.Core.Path.{ap}
use lib.Dec.{leb}
use Prim.Native.Nat.{ℕ}
use Rattle.sparse_vec.proofs.add.sum_fits.Goals as goal

pub returns-then-from-to : goal.returns-then-from-to
returns-then-from-to c = fits-at-once _ _ _ _ _ _ c.requires c.if-from-to.true

pub returns : goal.returns
returns c = ap (λ (n : ℕ). leb n c.args.to.cap) (sum-counted _ _ _ _ _ _ _ c.numbers.ensures c.numbers-2.ensures _ c.sum_length.ensures)
