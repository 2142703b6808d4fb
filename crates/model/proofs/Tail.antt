-- The tail's answers: TAILONES lists and WORDS hands back what the table says. Assumes nothing.
use mathlib.Core.Path.{◌≡◌, sym, ap, ◌∙◌}
use mathlib.Core.Bool.{true, false}
use mathlib.Core.List.{List}
use Prim.Native.Nat.{ℕ, ◌+◌, ◌-◌, ◌*◌, ◌/◌, ◌%◌, ◌^◌, ◌≤◌, ◌<◌}
use native.Mathlib.Omega.{arith}
use lib.Dec.{leb}
use lib.ListN.{length, get_or}
use lib.Seq.{ext_get_or}
use borrow.Author.Tests.{leb-true, leb-false, lt-ltb, le-ltb, eqb-true}
use Rattle.laws.specs.Plain.{select, between}
use Rattle.laws.specs.Parts.{part}
use Rattle.laws.specs.Words.{words_for, padding, digit}
use Rattle.laws.proofs.Bools.{by-test}
use Rattle.laws.proofs.Select.{select-same}
use Rattle.laws.proofs.Parts.{part_length, part_at, tabled-length, tabled-at}
use Rattle.tail.specs.Tail.{tail_bit, tail_ones, pad_clear}
use Rattle.tail.proofs.Digits.{value_same, value_low, value-zero, value-word}
use Rattle.table.specs.Table.{at_position, tail_word, tail_words}
use Rattle.model.specs.Store.{Store, edge, home_row, table_of}
use Rattle.model.specs.WellFormed.{WellFormed}
use Rattle.model.proofs.Rows.{words-fit}

-- a position past the padding is a tail column's
positions : (n k b : ℕ) → k < words_for n → b < 64 → k * 64 + b < padding n + n
positions n k b hk hb = omega arith

in_tail_lem : (w n k b : ℕ) → n ≤ w → k < words_for n → b < 64 → padding n ≤ k * 64 + b → (w - n) + (k * 64 + b - padding n) < w
in_tail_lem w n k b h hk hb low = beyond (padding n) (k * 64 + b) (positions n k b hk hb) low
  where
    beyond : (q x : ℕ) → x < q + n → q ≤ x → (w - n) + (x - q) < w
    beyond q x a c = omega arith

pad-zero : (ws : List ℕ) (n y : ℕ) → pad_clear ws n y ≡ true → get_or ws (y * words_for n) 0 % 2 ^ padding n ≡ 0
unfolding pad_clear
pad-zero ws n y e = eqb-true (get_or ws (y * words_for n) 0 % 2 ^ padding n) 0 e

module _ (s : Store) (v : WellFormed s) (r : ℕ) (hr : r < s.head.h) where
  -- a tail column's bit is in the words
  tail-bit : (c : ℕ) → edge s ≤ c → c < s.head.w → (table_of s).bit r c ≡ tail_bit s.words s.head.n (home_row s r) (c - edge s)
  tail-bit c l h = rw (lt-ltb r s.head.h hr, lt-ltb c s.head.w h, le-ltb c (edge s) l)

  -- TAILONES
  pub tail-ones-means : between (edge s) s.head.w ((table_of s).bit r) ≡ tail_ones s.words s.head.n (home_row s r) (edge s)
  unfolding tail_ones
  tail-ones-means =
      let e : s.head.w - edge s ≡ s.head.n = omega (arith, v.limits.tail) in
      ap (λ k. select k (edge s) ((table_of s).bit r)) e
      ∙ select-same s.head.n (edge s) ((table_of s).bit r) (λ c. tail_bit s.words s.head.n (home_row s r) (c - edge s)) (λ c l m. tail-bit c l (omega (arith, v.limits.tail)))

  -- a bit of a word, padding included
  word-bit : (k b : ℕ) → k < words_for s.head.n → b < 64
      → at_position (table_of s) r (k * 64 + b) ≡ digit (get_or s.words (home_row s r * words_for s.head.n + k) 0) b
  unfolding tail_bit
  word-bit k b hk hb = by-test (leb (padding s.head.n) (k * 64 + b))
      (λ t. let low : padding s.head.n ≤ k * 64 + b = leb-true (padding s.head.n) (k * 64 + b) t in
      let at : edge s + (k * 64 + b - padding s.head.n) - edge s ≡ k * 64 + b - padding s.head.n = omega arith in
      let pos : padding s.head.n + (k * 64 + b - padding s.head.n) ≡ k * 64 + b = omega arith in
      let w : (k * 64 + b) / 64 ≡ k = omega arith in
      let d : (k * 64 + b) % 64 ≡ b = omega arith in
      rw t (tail-bit (edge s + (k * 64 + b - padding s.head.n)) (omega arith) (in_tail_lem s.head.w s.head.n k b v.limits.tail hk hb low) ∙ rw (at, pos, w, d)))
      (λ n. let high : k * 64 + b < padding s.head.n = leb-false (padding s.head.n) (k * 64 + b) n in
      let zero-k : k ≡ 0 = omega arith in
      let at : home_row s r * words_for s.head.n + 0 ≡ home_row s r * words_for s.head.n = omega arith in
      rw (n, zero-k, at) (sym (clear b (omega arith))))
    where
      clear : (i : ℕ) → i < padding s.head.n → digit (get_or s.words (home_row s r * words_for s.head.n) 0) i ≡ false
      clear i h = value-zero (padding s.head.n) (digit (get_or s.words (home_row s r * words_for s.head.n) 0))
          (value_low (padding s.head.n) (get_or s.words (home_row s r * words_for s.head.n) 0) ∙ pad-zero s.words s.head.n (home_row s r) (v.tail.padding (home_row s r) (v.maps.rows.f-below r hr))) i h

  -- WORDS: each word fits 64 bits, as every lent word does
  pub words-mean : ((i : ℕ) → get_or s.words i 0 < 2 ^ 64) → tail_words (table_of s) r ≡ part s.words (home_row s r * words_for s.head.n) (words_for s.head.n)
  words-mean fit =
      let fits = (words-fit s v (home_row s r) (v.maps.rows.f-below r hr)).fits in
      let long : length (part s.words (home_row s r * words_for s.head.n) (words_for s.head.n)) ≡ words_for s.head.n
      = part_length s.words (home_row s r * words_for s.head.n) (words_for s.head.n) fits in
      ext_get_or 0 (tail_words (table_of s) r) (part s.words (home_row s r * words_for s.head.n) (words_for s.head.n))
      (tabled-length (words_for s.head.n) (tail_word (table_of s) r) ∙ sym long)
      (λ k h. let hk : k < words_for s.head.n = omega (arith, tabled-length (words_for s.head.n) (tail_word (table_of s) r)) in
      tabled-at (words_for s.head.n) (tail_word (table_of s) r) k hk
      ∙ value_same 64 (λ b. at_position (table_of s) r (k * 64 + b)) (digit (get_or s.words (home_row s r * words_for s.head.n + k) 0)) (λ b hb. word-bit k b hk hb)
      ∙ value-word (get_or s.words (home_row s r * words_for s.head.n + k) 0) (fit (home_row s r * words_for s.head.n + k))
      ∙ sym (part_at s.words (home_row s r * words_for s.head.n) (words_for s.head.n) k hk))
