-- `list_word` meets its contract: the ones of w are still to be listed, from place next on. Assumes nothing.
use Prim.Native.Nat.{◌+◌, ◌-◌}
use mathlib.Core.Path.{◌≡◌, refl, ap}
use mathlib.Core.List.{◌∷◌}
use native.Mathlib.Omega.{arith}
use lib.Bits.{bit_and, and_le_r}
use lib.Count.{count_trailing_zeros}
use lib.ListN.{length}
use Rattle.tail.specs.Ones.{word_ones}
use Rattle.tail.proofs.WordOnes.{listing_start, listing-one, listing-end, fits_head, fits-later, word_low, word_none}
use Rattle.tail.proofs.list.list_word.Goals.{In-loop-w}
use Rattle.tail.proofs.list.list_word.Goals as goal

-- the lowest one of a turn's word, and the others
low : (c : In-loop-w) → let w = c.loop-w.w in let base = c.args.base in
    word_ones w base ≡ (base + count_trailing_zeros 64 w) ∷ word_ones (bit_and w (w - 1)) base
low c = word_low _ _ (omega arith) (omega arith)

pub loop-w-init : goal.loop-w-init
loop-w-init c = (omega arith, c.requires.fits, listing_start _ _ _ _ refl)

pub loop-w-preserved : goal.loop-w-preserved
loop-w-preserved c = let l = c.loop-w in
    (omega (arith, and_le_r l.w (l.w - 1)), fits-later _ _ _ l.invariant.1 (low (goal.at.loop-w-preserved c).In-loop-w), listing-one _ _ _ _ _ _ _ _ l.invariant.2 (low (goal.at.loop-w-preserved c).In-loop-w))

pub returns : goal.returns
returns c = listing-end _ _ _ _ _ _ c.loop-w.invariant.2 (word_none _ _ (omega arith))

pub overflow_add-answers : goal.overflow_add-answers
overflow_add-answers c = omega (arith, fits_head _ _ _ c.loop-w.invariant.1 (low (goal.at.overflow_add-answers c).In-loop-w))

pub bounds-answers-next : goal.bounds-answers-next
bounds-answers-next c = omega (arith, c.loop-w.invariant.2.more, ap length (low (goal.at.bounds-answers-next c).In-loop-w))
