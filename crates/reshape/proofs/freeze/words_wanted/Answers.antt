-- `reshape::freeze::words_wanted` meets its contract. Assumes nothing.
use mathlib.Core.Path.{refl}
use native.Mathlib.Omega.{arith}
use Rattle.reshape.proofs.Freezes.{wanted-low, wanted-is}
use Rattle.reshape.proofs.freeze.words_wanted.Goals as goal

pub overflow_mul-result : goal.overflow_mul-result
overflow_mul-result c = omega (arith, wanted-low _ _ _ _ refl c.words_for.ensures c.requires)

pub returns : goal.returns
returns c = wanted-is _ _ _ _ refl c.words_for.ensures
