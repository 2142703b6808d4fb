-- A home row's part of the lent slots. Assumes nothing.
use mathlib.Core.Path.{◌≡◌, ap, ◌∙◌}
use mathlib.Core.List.{List}
use Prim.Native.Nat.{ℕ, ◌+◌, ◌-◌, ◌*◌, ◌≤◌}
use lib.ListN.{length, get_or, take, drop}
use Rattle.laws.specs.Parts.{part, row_of}
use Rattle.laws.proofs.Parts.{part-is}
use Rattle.store_head.specs.Query.{InSlots}

-- a row's list, as the code lends it
pub row_is : (slots counts : List ℕ) (k y i n : ℕ) → i ≡ y → n ≡ get_or counts i 0 → take ((i * k + n) - i * k) (drop (i * k) slots) ≡ row_of slots counts k y
unfolding row_of
row_is slots counts k y i n e f = part-is slots (i * k) n ∙ ap (part slots (i * k)) f ∙ ap (λ j. part slots (j * k) (get_or counts j 0)) e

pub row_room : (slots counts : List ℕ) (k y i n : ℕ) → InSlots slots counts k y → i ≡ y → n ≡ get_or counts i 0 → i * k + n ≤ length slots
row_room slots counts k y i n w e f = rw (f, e) w.fits
