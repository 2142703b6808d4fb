-- A column's list and a row as the stretches that the code lends. Assumes nothing.
use mathlib.Core.Path.{◌≡◌, sym}
use mathlib.Core.Bool.{false}
use Rattle.laws.specs.Rows.{member}
use Rattle.laws.proofs.Bools.{by-test}
use Rattle.laws.proofs.Members.{member-place}
use mathlib.Core.List.{List}
use Prim.Native.Nat.{ℕ, ◌+◌, ◌-◌, ◌*◌, ◌≤◌, ◌<◌}
use native.Mathlib.Numerals.{add-one}
use native.Mathlib.Omega.{arith}
use mir.Val.{Fits}
use mir.Syntax.{w16}
use lib.ListN.{length, get_or, take, drop}
use Rattle.laws.specs.Parts.{part, row_of}
use Rattle.laws.proofs.Parts.{part-is, part_length, row-end}
use Rattle.arraymap.specs.Index.{list_at, Rows}

-- ---- the list of column z
pub list-is : (starts entries : List ℕ) (z : ℕ) → take (get_or starts (z + 1) 0 - get_or starts z 0) (drop (get_or starts z 0) entries) ≡ list_at starts entries z
unfolding list_at part
list-is starts entries z = rw add-one

-- ---- row y
module _ (slots counts : List ℕ) (h k m : ℕ) (R : Rows slots counts h k m) (y : ℕ) (l : y < h) where
  pub row_room : y * k + get_or counts y 0 ≤ length slots
  row_room = omega (arith, R.room, R.fit y l, row-end y h k l)

  pub row-length : length (row_of slots counts k y) ≡ get_or counts y 0
  unfolding row_of
  row-length = part_length slots (y * k) (get_or counts y 0) row_room

pub row_is : (slots counts : List ℕ) (k y : ℕ) → take ((y * k + get_or counts y 0) - y * k) (drop (y * k) slots) ≡ row_of slots counts k y
unfolding row_of
row_is slots counts k y = part-is slots (y * k) (get_or counts y 0)

-- a row of numbers of 16 bits holds no wider one
pub too_wide : (row l : List ℕ) (z : ℕ) → row ≡ l → ((i : ℕ) → Fits w16 (get_or row i 0)) → (z < 65536 → ⊥) → false ≡ member z l
too_wide row l z e f g = rw (sym e) (by-test (member z row)
    (λ t. member-place row z t (λ i h q. absurd (g (omega (arith, f i)))))
    (λ n. sym n))
