-- SWAPR and SWAPC on a well-formed store, one law for each way out. Assumes nothing.
use mathlib.Core.Path.{◌≡◌, ◌∙◌}
use mathlib.Core.Bool.{true}
use mathlib.Core.List.{List, []}
use Prim.Native.Nat.{ℕ, ◌≤◌, ◌<◌}
use native.Mathlib.Omega.{arith}
use borrow.Author.Tests.{le-leb, lt-leb}
use Rattle.laws.specs.Maps.{Inverse}
use Rattle.permutation.specs.Maps.{CanSwap, swapped, turned}
use Rattle.table.specs.declared.Two.{Two}
use Rattle.table.specs.declared.Op.TheVariants.{SwapR, SwapC}
use Rattle.table.specs.Room.{all_checks}
use Rattle.model.specs.Store.{Store, Maps, edge, held_of}
use Rattle.model.specs.WellFormed.{WellFormed}
use Rattle.model.specs.Step.{full_after, inner}
use Rattle.model.proofs.Passed.{can-swapr, can-swapc}
use Rattle.store_head.specs.Lent.{full_of}
use Rattle.store_head.specs.Refused.{refusal_of}
use Rattle.store_head.proofs.Ends.{Refuses, Leaves, over_head}
use Rattle.store_head.proofs.Refuses.{past, same_number}

-- a store with other maps
abbrev with_rows : Store → Maps → Store
with_rows s m = record { head = s.head; slots = s.slots; rows = m; columns = s.columns; index = s.index; words = s.words }

abbrev with_columns : Store → Maps → Store
with_columns s m = record { head = s.head; slots = s.slots; rows = s.rows; columns = m; index = s.index; words = s.words }

-- what the swap of two maps asks, of maps that are inverse over 0..k
pub maps-can : (k : ℕ) (m : Maps) → Inverse k m.homes m.logicals → (i j : ℕ) → i < k → j < k → CanSwap m.homes m.logicals i j
maps-can k m v i j hi hj =
    record {
      i-in = omega (arith, v.f-long);
      j-in = omega (arith, v.f-long);
      i-home = omega (arith, v.g-long, v.f-below i hi);
      j-home = omega (arith, v.g-long, v.f-below j hj);
    }

-- a sparse column has a number of 16 bits
pub column-can : (s : Store) → WellFormed s → (c : ℕ) → c < edge s → c < 65536
column-can s v c h = omega (arith, v.maps.wide, v.limits.width)

module _ (s : Store) (p : Two) where
  -- ---- rows
  pub row-i : s.head.h ≤ p.i → Refuses inner (SwapR p) s 4
  unfolding inner
  row-i h = rw (le-leb s.head.h p.i h)

  pub row-j : p.i < s.head.h → s.head.h ≤ p.j → Refuses inner (SwapR p) s 4
  unfolding inner
  row-j hi h = rw (lt-leb s.head.h p.i hi, le-leb s.head.h p.j h)

  pub rows-done : (homes logicals : List ℕ) → homes ≡ swapped s.rows.homes p.i p.j → logicals ≡ turned s.rows.homes s.rows.logicals p.i p.j
      → p.i < s.head.h → p.j < s.head.h
      → Leaves inner (SwapR p) s (with_rows s (record { homes = homes; logicals = logicals }))
  unfolding inner
  rows-done homes logicals a b hi hj = rw (a, b, lt-leb s.head.h p.i hi, lt-leb s.head.h p.j hj)

  -- ---- columns
  pub column-i : s.head.w ≤ p.i → Refuses inner (SwapC p) s 5
  unfolding inner
  column-i h = rw (le-leb s.head.w p.i h)

  pub column-j : p.i < s.head.w → s.head.w ≤ p.j → Refuses inner (SwapC p) s 5
  unfolding inner
  column-j hi h = rw (lt-leb s.head.w p.i hi, le-leb s.head.w p.j h)

  pub tail-i : p.i < s.head.w → p.j < s.head.w → edge s ≤ p.i → Refuses inner (SwapC p) s 6
  unfolding inner
  tail-i hi hj h = rw (lt-leb s.head.w p.i hi, lt-leb s.head.w p.j hj, le-leb (edge s) p.i h)

  pub tail-j : p.i < s.head.w → p.j < s.head.w → p.i < edge s → edge s ≤ p.j → Refuses inner (SwapC p) s 6
  unfolding inner
  tail-j hi hj ei h = rw (lt-leb s.head.w p.i hi, lt-leb s.head.w p.j hj, lt-leb (edge s) p.i ei, le-leb (edge s) p.j h)

  pub columns-done : (homes logicals : List ℕ) (i j : ℕ) → i ≡ p.i → j ≡ p.j → homes ≡ swapped s.columns.homes i j → logicals ≡ turned s.columns.homes s.columns.logicals i j
      → p.i < edge s → p.j < edge s
      → Leaves inner (SwapC p) s (with_columns s (record { homes = homes; logicals = logicals }))
  unfolding inner
  columns-done homes logicals i j x y a b ei ej =
      rw (a, b, x, y, lt-leb s.head.w p.i (omega arith), lt-leb s.head.w p.j (omega arith), lt-leb (edge s) p.i ei, lt-leb (edge s) p.j ej)

-- ---- the head alone decides
module _ (s : Store) (p : Two) (k : ℕ) where
  pub rows-by-head : k ≡ refusal_of (inner (SwapR p) (full_of (over_head s.head) [])) → k ≡ refusal_of (inner (SwapR p) (full_of s []))
  unfolding inner
  rows-by-head q = q ∙ same_number (all_checks true (SwapR p) (held_of (full_of s []))) (full_after (SwapR p) (full_of (over_head s.head) [])) (full_after (SwapR p) (full_of s [])) [] []

  pub columns-by-head : k ≡ refusal_of (inner (SwapC p) (full_of (over_head s.head) [])) → k ≡ refusal_of (inner (SwapC p) (full_of s []))
  unfolding inner
  columns-by-head q = q ∙ same_number (all_checks true (SwapC p) (held_of (full_of s []))) (full_after (SwapC p) (full_of (over_head s.head) [])) (full_after (SwapC p) (full_of s [])) [] []

-- ---- nothing refuses
module _ (s : Store) (v : WellFormed s) (p : Two) where
  pub rows_in : 0 ≡ refusal_of (inner (SwapR p) (full_of s [])) → (p.i < s.head.h) × (p.j < s.head.h)
  rows_in free = can-swapr (full_of s []) v p (past (SwapR p) (full_of s []) free).0

  pub columns-in : 0 ≡ refusal_of (inner (SwapC p) (full_of s [])) → (p.i < edge s) × (p.j < edge s)
  columns-in free = can-swapc (full_of s []) v p (past (SwapC p) (full_of s []) free).0
