-- A buffer whose used places are cleared, and whose others are zero, is all zeros. Assumes nothing.
use mathlib.Core.Path.{◌≡◌, ◌∙◌}
use mathlib.Core.List.{List}
use mathlib.Core.Logic.{⊎_elim}
use Prim.Native.Nat.{ℕ, ◌+◌, ◌-◌, ◌≤◌, ◌<◌}
use native.Mathlib.Omega.{arith}
use native.Mathlib.Nat.{zero-add}
use lib.ListN.{length, get_or}
use Rattle.laws.specs.Parts.{zeros, put_at}
use Rattle.laws.proofs.Numbers.{lt-or-le}
use Rattle.laws.proofs.Parts.{zeros-length, zeros-at, is-zeros, put-length, put-in, put-above}
use Rattle.model.specs.WellFormed.{Zero}

-- the first k places are cleared, those from k on were zero
pub all-clear : (l : List ℕ) (k : ℕ) → k ≤ length l → Zero l k → put_at l 0 (zeros (k - 0)) ≡ zeros (length l)
all-clear l k fit rest = is-zeros (put_at l 0 (zeros (k - 0))) (length l) (put-length l 0 (zeros (k - 0)) fits) at_i
  where
    long : length (zeros (k - 0)) ≡ k
    long = omega (arith, zeros-length (k - 0))

    fits : 0 + length (zeros (k - 0)) ≤ length l
    fits = omega (arith, long)

    at_i : (i : ℕ) → i < length l → get_or (put_at l 0 (zeros (k - 0))) i 0 ≡ 0
    at_i i h = ⊎_elim
        (λ low. rw zero-add at (put-in l 0 (zeros (k - 0)) fits i (omega (arith, long)) ∙ zeros-at (k - 0) i))
        (λ high. put-above l 0 (zeros (k - 0)) fits i (omega (arith, long)) ∙ rest i high)
        (lt-or-le i k)
