-- The loop that asks whether the rest of a lent slice is zero. Assumes nothing.
use mathlib.Core.Path.{◌≡◌, sym, ap, ◌∙◌}
use mathlib.Core.Bool.{Bool, true, false, ◌&&◌}
use mathlib.Core.List.{List}
use mathlib.Core.Logic.{⊎_elim}
use Prim.Native.Nat.{ℕ, ◌+◌, ◌≤◌}
use native.Mathlib.Numerals.{add-one}
use native.Mathlib.Omega.{arith}
use lib.Dec.{eqb}
use lib.ListN.{length, get_or, get_or-eq_default}
use borrow.Author.Tests.{le-ltb, eqb-true}
use Rattle.laws.specs.Tests.{all_below, zero_at, zero_from}
use Rattle.laws.proofs.Bools.{same_bool, by-test, not-both}
use Rattle.laws.proofs.Numbers.{lt-or-le}
use Rattle.laws.proofs.Passes.{all-at, all_of, zero-before, zero-here, zero-sound}

-- ok says whether every place from `from` to before i is zero
pub record Scanning (l : List ℕ) (from i : ℕ) (ok : Bool) : Type 0 where
  pub started : from ≤ i
  pub told : ok ≡ all_below i (zero_at l from)

pub scan-start : (l : List ℕ) (from : ℕ) → Scanning l from from true
scan-start l from = record { started = omega arith; told = sym (all_of (zero_at l from) from (λ i h. zero-before l from i h)) }

pub scan-more : (l : List ℕ) (from i : ℕ) (ok : Bool) → Scanning l from i ok → Scanning l from (i + 1) (ok && eqb (get_or l i 0) 0)
unfolding all_below zero_at
scan-more l from i ok v = record { started = omega arith; told = rw (add-one, le-ltb i from v.started) (ap (λ b. b && eqb (get_or l i 0) 0) v.told) }

pub scan-done : (l : List ℕ) (from i : ℕ) (ok : Bool) → Scanning l from i ok → length l ≤ i → ok ≡ zero_from l from
unfolding zero_from
scan-done l from i ok v h = v.told ∙ same_bool _ _
    (λ t. all_of (zero_at l from) (length l) (λ k b. all-at (zero_at l from) i t k (omega arith)))
    (λ t. all_of (zero_at l from) i (λ k b. ⊎_elim
    (λ a. all-at (zero_at l from) (length l) t k a)
    (λ a. zero-here l from k (get_or-eq_default l 0 {n = k} a))
    (lt-or-le k (length l))))

-- ---- in steps: what stands before `at` is zero, and the step from `at` to before `to` was looked at alone
stretch-there : (l : List ℕ) (at i : ℕ) → at ≤ i → zero_at l at i ≡ true → get_or l i 0 ≡ 0
unfolding zero_at
stretch-there l at i h e = eqb-true (get_or l i 0) 0 (rw (le-ltb i at h) at e)

pub scan-step : (l : List ℕ) (from at to : ℕ) → Scanning l from at true → true ≡ all_below to (zero_at l at) → at ≤ to → Scanning l from to true
scan-step l from at to v e h =
    record {
      started = omega (arith, v.started);
      told = sym (all_of (zero_at l from) to (λ i b. ⊎_elim
          (λ a. all-at (zero_at l from) at (sym v.told) i a)
          (λ a. zero-here l from i (stretch-there l at i a (all-at (zero_at l at) to (sym e) i b)))
          (lt-or-le i at)));
    }

pub scan-fails : (l : List ℕ) (from at to : ℕ) → from ≤ at → false ≡ all_below to (zero_at l at) → false ≡ zero_from l from
scan-fails l from at to h e = by-test (zero_from l from)
    (λ t. not-both (all_of (zero_at l at) to (λ i b. ⊎_elim
    (λ a. zero-before l at i a)
    (λ a. zero-here l at i (zero-sound l from t i (omega arith)))
    (lt-or-le i at))) (sym e))
    (λ f. sym f)

pub none-after : (l : List ℕ) (from : ℕ) → length l ≤ from → true ≡ zero_from l from
none-after l from h = scan-done l from from true (scan-start l from) h
