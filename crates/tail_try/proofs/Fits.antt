-- Rows of at most two words, three of them, fit six words. Assumes nothing.
use mathlib.Core.List.{List}
use Prim.Native.Nat.{ℕ, suc, ◌-◌, ◌≤◌, ◌<◌}
use native.Mathlib.Nat.{mul-le-mul_right}
use native.Mathlib.Omega.{arith}
use lib.ListN.{length}
use Rattle.laws.specs.Words.{words_for}
use Rattle.laws.proofs.Parts.{row-end}
use Rattle.laws.proofs.Select.{count_most}
use Rattle.tail.specs.Tail.{tail_bit, tail_ones, InRow, CanGrow, CanList, TailRows}

pub row_fits : (ws : List ℕ) (s y : ℕ) → 6 ≤ length ws → s ≤ 2 → y < 3 → InRow ws s y
row_fits ws s y long few low = record { fits = omega (arith, row-end y 3 s low) }

pub can-grow : (ws : List ℕ) (n h : ℕ) → 6 ≤ length ws → n ≤ 127 → h ≤ 3 → CanGrow ws n h
can-grow ws n h long few low = record { small = omega arith; room = omega (arith, mul-le-mul_right (words_for (suc n)) low) }

pub tail-rows : (ws : List ℕ) (n h : ℕ) → 6 ≤ length ws → n ≤ 128 → h ≤ 3 → TailRows ws n h
tail-rows ws n h long few low = record { small = omega arith; room = omega (arith, mul-le-mul_right (words_for n) low) }

pub can-list : (ws : List ℕ) (n y base : ℕ) (answers : List ℕ) → 6 ≤ length ws → n ≤ 128 → y < 3 → base ≤ 1000 → 128 ≤ length answers → CanList ws n y base answers
unfolding tail_ones
can-list ws n y base answers long few low small room = record {
  small = omega arith;
  wide = omega arith;
  row = row_fits ws (words_for n) y long (omega arith) low;
  room = omega (arith, count_most n base (λ c. tail_bit ws n y (c - base)));
}
