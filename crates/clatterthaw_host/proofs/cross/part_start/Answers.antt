-- `clatterthaw_host::cross::part_start` meets its contract. Assumes nothing.
use Rattle.clatterthaw_host.proofs.Crosses.{start-past, start_of, start_small}
use mathlib.Core.Path.{refl}
use native.Mathlib.Omega.{arith}
use Rattle.clatterthaw_host.proofs.cross.part_start.Goals as goal

pub returns-then-row_homes-at : goal.returns-then-row_homes-at
returns-then-row_homes-at c = start-past c.args.row_homes.now c.args.r c.args.n c.if-row_homes-at.true

pub overflow_mul-result : goal.overflow_mul-result
overflow_mul-result c = omega (arith, start_small _ _ _ _ refl (c.type_inv.row_homes c.args.r).fits c.ranges.n.fits c.words_for.ensures)

pub returns : goal.returns
returns c = start_of c.args.row_homes.now c.args.r c.args.n _ _ refl c.words_for.ensures
