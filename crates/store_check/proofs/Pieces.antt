-- What each part of the store check answers: the tests that its code makes are those of its definition. Assumes nothing.
use mathlib.Core.Path.{◌≡◌, refl, sym}
use mathlib.Core.Bool.{Bool, true, false, ◌&&◌}
use Prim.Native.Nat.{ℕ, ◌+◌, ◌-◌, ◌*◌, ◌≤◌, ◌<◌}
use native.Mathlib.Omega.{arith}
use native.Mathlib.Nat.{zero-add}
use lib.Dec.{leb, ltb}
use lib.ListN.{length, get_or, take, drop}
use borrow.Author.Tests.{le-leb, lt-leb}
use Rattle.std.specs.Bool.{MatchBool}
use Rattle.std.specs.List.{range_with_len, AllWithin, HoldsAt}
use Rattle.std.proofs.lemmas.List.FromFn.{get_or-range_with_len, length-range_with_len}
use Rattle.laws.specs.Parts.{row_of}
use Rattle.laws.specs.Tests.{all_below, zero_from}
use Rattle.laws.proofs.Passes.{all_of, all-fails}
use Rattle.laws.specs.Words.{words_for}
use Rattle.laws.proofs.Bools.{and_last, and-group}
use Rattle.laws.proofs.Parts.{part-is}
use Rattle.table.specs.Step.{height_limit, width_limit, slot_limit}
use Rattle.sparse_vec.specs.Row.{row_test}
use Rattle.permutation.specs.Maps.{inverse_test}
use Rattle.arraymap.specs.Check.{index_test}
use Rattle.laws.specs.Plain.{pick}
use Rattle.model.specs.Store.{Store, Head, edge, row}
use Rattle.model.specs.Check.{head_test, length_test, maps_test, unused_test, row_at, on_test, off_test}

-- ---- numbers

-- the code joins its tests from the left, the definitions from the right: and-group
pub head-told : (d : Head)
    → (((leb d.h height_limit && leb d.made width_limit) && leb d.w d.made) && leb d.n d.w) && leb d.slots slot_limit ≡ head_test d
unfolding head_test
head-told d = simp and-group

pub long-told : (s : Store) (n : ℕ) → n ≡ words_for s.head.n
    → (((leb (s.head.h * s.head.slots) (length s.slots.entries) && leb s.head.h (length s.slots.counts)) && leb s.head.made (length s.index.marks))
    && ltb s.head.made (length s.index.starts)) && leb (s.head.h * n) (length s.words) ≡ length_test s
unfolding length_test
long-told s n e = rw e (simp and-group)

-- ---- whole buffers
module _ (s : Store) where
  pub maps-told : (r c : Bool) → r ≡ inverse_test s.head.h s.rows.homes s.rows.logicals → c ≡ inverse_test s.head.made s.columns.homes s.columns.logicals
      → r && c ≡ maps_test s
  unfolding maps_test
  maps-told r c p q = rw (p, q)

  pub unused-told : (n : ℕ) → n ≡ words_for s.head.n → (r₁ r₂ r₃ r₄ r₅ r₆ r₇ : Bool)
      → r₁ ≡ zero_from s.slots.entries (s.head.h * s.head.slots) → r₂ ≡ zero_from s.slots.counts s.head.h
      → r₃ ≡ zero_from s.rows.homes s.head.h → r₄ ≡ zero_from s.rows.logicals s.head.h
      → r₅ ≡ zero_from s.columns.homes s.head.made → r₆ ≡ zero_from s.columns.logicals s.head.made → r₇ ≡ zero_from s.words (s.head.h * n)
      → (((((r₁ && r₂) && r₃) && r₄) && r₅) && r₆) && r₇ ≡ unused_test s
  unfolding unused_test
  unused-told n e r₁ r₂ r₃ r₄ r₅ r₆ r₇ q₁ q₂ q₃ q₄ q₅ q₆ q₇ = rw (q₁, q₂, q₃, q₄, q₅, q₆, q₇, e) (simp and-group)

-- ---- a row
module _ (s : Store) (y : ℕ) where
  pub row-long : s.head.slots < get_or s.slots.counts y 0 → false ≡ row_at s y
  unfolding row_at
  row-long l = rw (lt-leb (get_or s.slots.counts y 0) s.head.slots l)

  module _ (r : Bool) (q : r ≡ row_test (take s.head.made s.columns.logicals) (edge s) 0 (take ((y * s.head.slots + get_or s.slots.counts y 0) - y * s.head.slots) (drop (y * s.head.slots) s.slots.entries))) where
    lent : row_test (take s.head.made s.columns.logicals) (edge s) 0 (row s y) ≡ r
    unfolding row_of
    lent = sym (rw part-is at q)

    pub row-wrong : r ≡ false → false ≡ row_at s y
    unfolding row_at
    row-wrong t = rw (lent, t) (sym (and_last (leb (get_or s.slots.counts y 0) s.head.slots) false refl))

    pub row_told : get_or s.slots.counts y 0 ≤ s.head.slots → r ≡ true → (z : Bool)
        → z ≡ zero_from (take ((y * s.head.slots + s.head.slots) - y * s.head.slots) (drop (y * s.head.slots) s.slots.entries)) (get_or s.slots.counts y 0)
        → z ≡ row_at s y
    unfolding row_at
    row_told l t z e = rw (le-leb (get_or s.slots.counts y 0) s.head.slots l, lent, t) (rw part-is at e)

-- ---- the rows

-- what `all` over the numbers below n answers is the test over them
pub all-told : (p : ℕ → Bool) (n : ℕ) (r : Bool)
    → MatchBool r (AllWithin (λ i. p i ≡ true) (range_with_len 0 n) 0 (length (range_with_len 0 n)))
    ((i : ℕ) × (i < length (range_with_len 0 n)) × HoldsAt (λ j. p j ≡ false) (range_with_len 0 n) i)
    → r ≡ all_below n p
all-told p n true t = sym (all_of p n (λ i h. rw (get_or-range_with_len 0 n i 0 h, zero-add) at (t i 0 (omega arith) (omega (arith, length-range_with_len 0 n)))))
all-told p n false t =
    let h : t.0 < n = omega (arith, t.1, length-range_with_len 0 n) in
    sym (all-fails p n t.0 h (rw (get_or-range_with_len 0 n t.0 0 h, zero-add) at (t.2 0)))

-- ---- the index
module _ (s : Store) where
  pub off-told : (r₁ r₂ r₃ : Bool) → r₁ ≡ zero_from s.index.starts 0 → r₂ ≡ zero_from s.index.entries 0 → r₃ ≡ zero_from s.index.marks 0
      → (r₁ && r₂) && r₃ ≡ off_test s
  unfolding off_test
  off-told r₁ r₂ r₃ q₁ q₂ q₃ = rw (q₁, q₂, q₃) (simp and-group)

  pub switched-on : (r : Bool) → s.head.on ≡ true
      → r ≡ index_test (row s) s.head.h s.head.made s.index.starts s.index.entries s.columns.logicals s.index.marks (edge s)
      → r ≡ pick s.head.on (on_test s) (off_test s)
  unfolding on_test
  switched-on r t q = rw t q
