-- One sparse row in a stretch of the lent slot entries: `len` strictly rising home columns from place `at` on, zeros up to `cap` places. Assumes nothing.
use Rattle.std.specs.Prelude.{◌≡◌, Bool, true, ◌&&◌, ◌⊎◌, List, [], ◌∷◌, ℕ, zero, suc, ◌+◌, ◌≤◌, ◌<◌, leb, ltb, length, get_or, Option, Some, None, Result, Ok, Err}
use Rattle.laws.specs.Plain.{pick, keep}
use Rattle.laws.specs.Rows.{member, Rising, xor_merge, put_in}
use Rattle.laws.specs.Parts.{part, put_at, pad_to}

-- how many leading numbers are below x
unfoldable pub rank : List ℕ → ℕ → ℕ
rank [] x = zero
rank (y ∷ ys) x = pick (ltb y x) (suc (rank ys x)) zero

-- where x stands, or the place where it would go
unfoldable pub find_of : List ℕ → ℕ → Result ℕ ℕ
find_of row x = pick (member x row) (Ok (rank row x)) (Err (rank row x))

-- the stretch of cap places at `at` with the row r, and zeros after it
unfoldable pub put_row : List ℕ → ℕ → ℕ → List ℕ → List ℕ
put_row slots at cap r = put_at slots at (pad_to cap r)

-- a row of len numbers stands in the stretch: it rises, and every unused place is zero
pub record HasRow (slots : List ℕ) (at len cap : ℕ) : Type 0 where
  pub fits : at + cap ≤ length slots
  pub room : len ≤ cap
  pub rising : Rising (part slots at len)
  pub unused : (k : ℕ) → len ≤ k → k < cap → get_or slots (at + k) 0 ≡ 0

-- x can be put in: there is a row, and the row with x in it has room
pub record CanInsert (slots : List ℕ) (at len cap x : ℕ) : Type 0 where
  pub row : HasRow slots at len cap
  pub more : length (put_in x (part slots at len)) ≤ cap

-- two rows that lie apart
pub record CanAdd (slots : List ℕ) (d dl s sl cap : ℕ) : Type 0 where
  pub row : HasRow slots d dl cap
  pub source : HasRow slots s sl cap
  pub apart : (d + cap ≤ s) ⊎ (s + cap ≤ d)

-- row d plus row s, over bits
unfoldable pub row_sum : List ℕ → ℕ → ℕ → ℕ → ℕ → List ℕ
row_sum slots d dl s sl = xor_merge (part slots d dl) (part slots s sl)

-- the answer of an addition: how many numbers the sum has, or that it has more than cap
unfoldable pub sum_in : ℕ → List ℕ → Option ℕ
sum_in cap r = pick (leb (length r) cap) (Some (length r)) None

-- the slots after an addition: the sum in its row, or all as it was
unfoldable pub added_to : List ℕ → ℕ → ℕ → List ℕ → List ℕ
added_to slots d cap r = pick (leb (length r) cap) (put_row slots d cap r) slots

-- ---- through the map from home to logical columns

-- every number of the row is in the map
pub record Mapped (row logical : List ℕ) : Type 0 where
  pub low : (j : ℕ) → j < length row → get_or row j 0 < length logical

-- the logical numbers of the row's numbers, in the row's order, those of a to b-1 only
unfoldable pub walked : List ℕ → ℕ → ℕ → List ℕ → List ℕ
walked logical a b [] = []
walked logical a b (z ∷ row) = keep (leb a (get_or logical z 0) && ltb (get_or logical z 0) b) (get_or logical z 0) (walked logical a b row)

-- the row's numbers whose logical number is below w
unfoldable pub kept_below : List ℕ → ℕ → List ℕ → List ℕ
kept_below logical w [] = []
kept_below logical w (z ∷ row) = keep (ltb (get_or logical z 0) w) z (kept_below logical w row)

-- the row's share of the store check: strictly rising from lo, each number in the map and its logical number below `edge`
unfoldable pub row_test : List ℕ → ℕ → ℕ → List ℕ → Bool
row_test logical edge lo [] = true
row_test logical edge lo (z ∷ row) = leb lo z && (ltb z (length logical) && (ltb (get_or logical z 0) edge && row_test logical edge (suc z) row))
