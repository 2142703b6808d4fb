-- `sparse_vec::passes::lay` meets its contract. Assumes nothing.
use borrow.Author.Tests.{le-leb, lt-leb}
use native.Mathlib.Omega.{arith}
use Rattle.sparse_vec.proofs.passes.lay.Goals as goal

pub returns-then-b-v : goal.returns-then-b-v
returns-then-b-v c = rw (le-leb c.args.b c.args.v c.if-b-v.true)

pub returns-else-b-v : goal.returns-else-b-v
returns-else-b-v c = rw (lt-leb c.args.b c.args.v (omega arith))
