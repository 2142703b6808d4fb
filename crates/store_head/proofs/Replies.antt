-- A reply read back: whether it is `ok`, its values, its number. Assumes nothing.
use mathlib.Core.Path.{◌≡◌, ap}
use mathlib.Core.Bool.{Bool, true, false, true≢false}
use mathlib.Core.List.{List, []}
use Prim.Native.Nat.{ℕ}
use lib.ListN.{get_or}
use Rattle.table.specs.Run.{Reply, ok, nay}

is_ok : Reply → Bool
is_ok (ok l) = true
is_ok (nay k) = false

unfoldable pub number_in : Reply → ℕ
number_in (ok l) = 0
number_in (nay k) = k

unfoldable pub values : Reply → List ℕ
values (ok l) = l
values (nay k) = []

unfoldable pub value : ℕ → Reply → ℕ
value i r = get_or (values r) i 0

-- a reply is not both
pub never {ℓ} : {A : Type ℓ} (l : List ℕ) (k : ℕ) → ok l ≡ nay k → A
unfolding is_ok
never l k e = absurd (true≢false (ap is_ok e))
