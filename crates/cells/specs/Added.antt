-- ADD: its places, and what its inner functions ask and tell of two home rows. Assumes nothing.
use Rattle.std.specs.Prelude.{◌≡◌, Bool, true, ◌&&◌, List, ℕ, ◌*◌, ◌≤◌, ◌<◌, leb, length, get_or}
use Rattle.laws.specs.Plain.{pick}
use Rattle.laws.specs.Rows.{member, xor_merge}
use Rattle.laws.specs.Parts.{row_of}
use Rattle.sparse_vec.specs.Row.{CanAdd}
use Rattle.table.specs.declared.Addition.{Addition}
use Rattle.table.specs.Step.{not_single}

-- ADD
abbrev pub adding : ℕ → ℕ → ℕ → Addition
adding d s start = record { d = d; s = s; start = start }

-- the lists of home rows y and x, of k slots each, lie in the lent slots
pub record CanSum (slots counts : List ℕ) (k y x : ℕ) : Type 0 where
  pub small : k ≤ 65535
  pub y-in : y < length counts
  pub x-in : x < length counts
  pub rows : CanAdd slots (y * k) (get_or counts y 0) (x * k) (get_or counts x 0) k

-- row y plus row x, over bits
unfoldable pub sum_of_rows : List ℕ → List ℕ → ℕ → ℕ → ℕ → List ℕ
sum_of_rows slots counts k y x = xor_merge (row_of slots counts k y) (row_of slots counts k x)

-- "source has not exactly one sparse one, or row d lacks it", with the index on
unfoldable pub not_one : Bool → List ℕ → List ℕ → ℕ → ℕ → ℕ → Bool
not_one on slots counts k y x = on && not_single (row_of slots counts k x) (λ z. member z (row_of slots counts k y))

-- what refuses the sum: SINGLE, then SLOTS
unfoldable pub sum_refused : Bool → List ℕ → List ℕ → ℕ → ℕ → ℕ → ℕ
sum_refused on slots counts k y x = pick (not_one on slots counts k y x) 10 (pick (leb (length (sum_of_rows slots counts k y x)) k) 0 12)

-- where rows are added, their sum has room
pub record CanAddLists (slots counts : List ℕ) (all : Bool) (k y x : ℕ) : Type 0 where
  pub rows : CanSum slots counts k y x
  pub room : all ≡ true → length (sum_of_rows slots counts k y x) ≤ k

-- where a mark is set, the first number of row x is that of a mark
pub record CanSpend (slots marks : List ℕ) (all on : Bool) (k x : ℕ) : Type 0 where
  pub place : all ≡ true → on ≡ true → x * k < length slots
  pub mark : all ≡ true → on ≡ true → get_or slots (x * k) 0 < length marks
