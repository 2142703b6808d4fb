-- COLONES' answer: the rows of an exact column's list by their logical numbers are what the table says. Assumes nothing.
use mathlib.Core.Path.{◌≡◌, sym, ◌∙◌}
use mathlib.Core.Bool.{true, ◌&&◌}
use Prim.Native.Nat.{ℕ, ◌-◌, ◌<◌, min}
use native.Mathlib.Omega.{arith}
use lib.Dec.{ltb}
use lib.ListN.{get_or}
use borrow.Author.Tests.{lt-ltb}
use Rattle.laws.specs.Plain.{between}
use Rattle.laws.specs.Rows.{member}
use Rattle.laws.proofs.Bools.{same_bool}
use Rattle.laws.proofs.Select.{select-same}
use Rattle.arraymap.specs.Index.{list_at}
use Rattle.arraymap.specs.Show.{shown, CanShow}
use Rattle.arraymap.specs.Check.{IndexOk}
use Rattle.arraymap.proofs.Mapped.{select-cut, shown-means}
use Rattle.arraymap.proofs.Means.{can-show}
use Rattle.model.specs.Store.{Store, edge, row, home_row, home_column, table_of}
use Rattle.model.specs.WellFormed.{WellFormed}

module _ (s : Store) (v : WellFormed s) (c : ℕ) (low : c < edge s) (on : s.head.on ≡ true) where
  ok : IndexOk (row s) s.head.h s.head.made s.index.starts s.index.entries s.columns.logicals s.index.marks (edge s)
  ok = v.index.on on

  c-made : c < s.head.made
  c-made = omega (arith, v.maps.wide)

  z-made : home_column s c < s.head.made
  z-made = v.maps.columns.f-below c c-made

  -- the column's list can be shown
  pub colones-can : CanShow (list_at s.index.starts s.index.entries (home_column s c)) s.rows.homes s.rows.logicals s.head.h
  colones-can = can-show (row s) s.head.h s.head.made s.index.starts s.index.entries s.columns.logicals s.index.marks (edge s) ok (home_column s c) z-made
      s.rows.homes s.rows.logicals v.maps.rows

  -- an exact column lists exactly the rows that hold it
  exact : get_or s.index.marks (home_column s c) 0 ≡ 0 → (y : ℕ) → y < s.head.h
      → member y (list_at s.index.starts s.index.entries (home_column s c)) ≡ member (home_column s c) (row s y)
  exact e y hy = same_bool (member y (list_at s.index.starts s.index.entries (home_column s c))) (member (home_column s c) (row s y))
      (λ m. ok.only (home_column s c) y z-made (omega (arith, v.maps.columns.back c c-made)) e m)
      (λ m. ok.all y (home_column s c) hy m)

  pub colones-means : get_or s.index.marks (home_column s c) 0 ≡ 0 → (a b : ℕ)
      → between a (min b s.head.h) (λ r. (table_of s).bit r c) ≡ shown s.rows.logicals a b (list_at s.index.starts s.index.entries (home_column s c))
  colones-means e a b =
      select-same (min b s.head.h - a) a (λ r. (table_of s).bit r c) (λ r. ltb r s.head.h && member (home_column s c) (row s (home_row s r)))
      (λ r l h. rw (lt-ltb c s.head.w (omega arith), lt-ltb c (edge s) low))
      ∙ sym (select-cut a b s.head.h (λ r. member (home_column s c) (row s (home_row s r))))
      ∙ sym (shown-means (list_at s.index.starts s.index.entries (home_column s c)) s.rows.homes s.rows.logicals s.head.h colones-can (row s) (home_column s c) (exact e) a b)
