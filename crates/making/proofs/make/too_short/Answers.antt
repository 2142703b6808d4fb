-- `making::make::too_short` meets its contract. Assumes nothing.
use native.Mathlib.Omega.{arith}
use native.Mathlib.Numerals.{add-one}
use Rattle.making.proofs.Makes.{product-fits, words-few}
use Rattle.making.proofs.make.too_short.Goals as goal

pub overflow_mul-slots : goal.overflow_mul-slots
overflow_mul-slots c = omega (arith, product-fits c.args.p.h c.args.p.slots (omega arith) (omega arith))

pub overflow_mul-words : goal.overflow_mul-words
overflow_mul-words c = omega (arith, product-fits c.args.p.h c.words_for.result (omega arith) (omega (arith, words-few c.args.p.n (omega arith))))

pub returns : goal.returns
returns c = rw (c.words_for.ensures, add-one)
