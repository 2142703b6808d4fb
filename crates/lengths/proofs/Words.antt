-- A row's tail columns that hold one, measured word by word, and a word's ones from the lowest up. Assumes nothing.
use mathlib.Core.Path.{◌≡◌, refl, ◌∙◌}
use mathlib.Core.List.{List, [], ◌∷◌}
use Prim.Native.Nat.{ℕ, ◌+◌, ◌-◌, ◌*◌, ◌/◌, ◌^◌, ◌≤◌, ◌<◌}
use native.Mathlib.Omega.{arith}
use lib.Bits.{bit_and, and_le_r}
use lib.Count.{count_trailing_zeros}
use lib.ListN.{get_or, take, drop}
use Rattle.std.proofs.lemmas.List.{get_or-take, get_or-drop}
use Rattle.table.specs.Run.{ok}
use Rattle.laws.specs.Words.{words_for, padding, digit}
use Rattle.laws.proofs.Select.{count_most}
use Rattle.lines.specs.Line.{line_long}
use Rattle.tail.specs.Ones.{word_ones}
use Rattle.tail.specs.Tail.{tail_bit, tail_ones}
use Rattle.tail.proofs.WordOnes.{word_low, word_none, rest_ones, column_at, Walk, walk_start, walk_more, walk-all, walk-word, walk_end}
use Rattle.lengths.specs.Length.{Takes}
use Rattle.lengths.proofs.Measured.{Measured, measured-start, measured-more, measured-list, measured-line}

-- word i of the part of n words from place `at` on
pub part-word : (ws : List ℕ) (at n i : ℕ) → i < n → get_or (take (at + n - at) (drop at ws)) i 0 ≡ get_or ws (at + i) 0
part-word ws at n i h = get_or-take (at + n - at) (drop at ws) i 0 (omega arith) ∙ get_or-drop at ws i 0

-- ---- a word: the ones of w are still to be measured
pub record WordSoFar (word base w long : ℕ) : Type 0 where
  pub fits : w < 2 ^ 64
  pub so_far : Measured 0 (word_ones word base) long (word_ones w base)

pub word-start : (word base : ℕ) → word < 2 ^ 64 → WordSoFar word base word 0
word-start word base h = record { fits = h; so_far = measured-start 0 (word_ones word base) (word_ones word base) refl }

module _ (word base w long : ℕ) (v : WordSoFar word base w long) where
  pub word_more : (k : ℕ) → 0 < w → Takes ((base + count_trailing_zeros 64 w) ∷ []) k → WordSoFar word base (bit_and w (w - 1)) (long + k)
  word_more k p t = record {
    fits = omega (arith, v.fits, and_le_r w (w - 1));
    so_far = measured-more 0 _ long _ ((base + count_trailing_zeros 64 w) ∷ []) (word_ones (bit_and w (w - 1)) base) k v.so_far (word_low base w p v.fits) t;
  }

  pub word-short : long ≤ 1344
  unfolding word_ones
  word-short = omega (arith, v.so_far.small, count_most 64 base (λ c. digit word (c - base)))

  pub word-done : w ≡ 0 → Takes (word_ones word base) long
  word-done z = measured-list (word_ones word base) long _ (word_none base w z) v.so_far

-- ---- a row: the next column has the number `first` and stands at bit `shift` of word j
pub record TailSoFar (ws : List ℕ) (n y base long first shift j : ℕ) : Type 0 where
  pub walk : Walk n j shift
  pub next : first ≡ base + column_at n j shift
  pub so_far : Measured 3 (tail_ones ws n y base) long (rest_ones ws n y base (column_at n j shift))

pub tail-start : (ws : List ℕ) (n y base p : ℕ) → p ≡ padding n → TailSoFar ws n y base 3 base p 0
tail-start ws n y base p e = record {
  walk = walk_start n p e;
  next = omega arith;
  so_far = measured-start 3 (tail_ones ws n y base) (rest_ones ws n y base (column_at n 0 p)) (walk-all ws n y base p e);
}

module _ (ws : List ℕ) (n y base long first shift j : ℕ) (v : TailSoFar ws n y base long first shift j) where
  module _ (s : ℕ) (e : s ≡ words_for n) (h : j < s) where
    pub tail_more : (k : ℕ) → get_or ws (y * s + j) 0 < 2 ^ 64 → Takes (word_ones (get_or ws (y * s + j) 0 / 2 ^ shift) first) k
        → TailSoFar ws n y base (long + k) (first + (64 - shift)) 0 (j + 1)
    tail_more k f t = record {
      walk = walk_more n s j shift v.walk e h;
      next = omega (arith, v.next, v.walk.from, v.walk.shifts);
      so_far = measured-more 3 _ long _ (word_ones (get_or ws (y * s + j) 0 / 2 ^ shift) first) (rest_ones ws n y base (column_at n (j + 1) 0)) k v.so_far
          (rw v.next (walk-word ws n y base s j shift v.walk e h f)) t;
    }

    pub tail-wide : base + n < 2 ^ 32 → first + (64 - shift) < 2 ^ 32
    tail-wide w = omega (arith, v.next, v.walk.from, v.walk.shifts)

  pub tail-short : n ≤ 65535 → long ≤ 1376238
  unfolding tail_ones
  tail-short h = omega (arith, v.so_far.small, count_most n base (λ c. tail_bit ws n y (c - base)))

  pub tail-done : (s : ℕ) → s ≡ words_for n → s ≤ j → long ≡ line_long (ok (tail_ones ws n y base))
  tail-done s e h = measured-line (tail_ones ws n y base) long _ (walk_end ws n y base s j shift v.walk e h) v.so_far
