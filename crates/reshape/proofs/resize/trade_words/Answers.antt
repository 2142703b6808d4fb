-- `reshape::resize::trade_words` meets its contract. Assumes nothing.
use native.Mathlib.Omega.{arith}
use Rattle.reshape.proofs.Resizes.{trade-words, words-traded}
use Rattle.reshape.proofs.resize.trade_words.Goals as goal

pub overflow_mul-y : goal.overflow_mul-y
overflow_mul-y c = omega (arith, (trade-words _ _ _ _ _ c.words_for-k.ensures c.requires).first)

pub overflow_mul-x : goal.overflow_mul-x
overflow_mul-x c = omega (arith, (trade-words _ _ _ _ _ c.words_for-k.ensures c.requires).second)

pub exchange-requires : goal.exchange-requires
exchange-requires c = trade-words _ _ _ _ _ c.words_for-k.ensures c.requires

pub returns : goal.returns
returns c = words-traded _ _ _ _ _ _ c.words_for-k.ensures c.exchange.ensures
