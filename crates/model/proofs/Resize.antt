-- RESIZE on a store, whole: it stays well-formed, and its table is the plain table's. Assumes nothing.
use mathlib.Core.Path.{◌≡◌, refl, sym, ap, ◌∙◌}
use mathlib.Core.Bool.{Bool, false, not, ◌&&◌}
use Prim.Native.Nat.{ℕ, ◌≤◌, ◌<◌}
use native.Mathlib.Omega.{arith}
use lib.Dec.{ltb, eqb}
use lib.ListN.{get_or}
use borrow.Author.Tests.{ltb-true, lt-ltb, eqb-true}
use Rattle.laws.specs.Plain.{pick}
use Rattle.laws.proofs.Bools.{by-test}
use Rattle.table.specs.declared.Shape.{Shape}
use Rattle.table.specs.declared.Op.TheVariants.{Resize}
use Rattle.table.specs.Step.{after}
use Rattle.model.specs.Store.{Head, Store, edge, home_row, home_column, cell, table_of}
use Rattle.model.specs.WellFormed.{WellFormed}
use Rattle.model.specs.Change.{brought_home, drop_rows, drop_columns, resize}
use Rattle.model.proofs.Same.{same-table, same-sizes}
use Rattle.model.proofs.BringHome.{AtHome, brought-home}
use Rattle.model.proofs.DropRows.{drop-rows-ok, drop-rows-cell, drop-rows-room}
use Rattle.model.proofs.DropColumns.{drop-columns-ok, drop-columns-cell, drop-columns-room}
use Rattle.model.proofs.SameRoom.{SameRoom, room-then}

-- what RESIZE's checks leave: no larger, the index off, and the whole tail dropped or none of it
pub record CanResize (s : Store) (p : Shape) : Type 0 where
  pub lower : p.h ≤ s.head.h
  pub narrower : p.w ≤ s.head.w
  pub off : s.head.on ≡ false
  pub whole : eqb p.w s.head.w ≡ false → p.w ≤ edge s

-- ---- a store whose rows are at home already
module _ (s : Store) (v : WellFormed s) (p : Shape) (can : CanResize s p) (home : (r : ℕ) → r < p.h → home_row s r ≡ r) where
  d : Store
  d = drop_rows p.h s

  d-ok : WellFormed (drop_rows p.h s)
  d-ok = drop-rows-ok s v can.off p.h can.lower home

  d-cell : (r c : ℕ) → r < p.h → c < s.head.w → cell (drop_rows p.h s) (home_row (drop_rows p.h s) r) c ≡ cell s (home_row s r) c
  d-cell = drop-rows-cell s v can.off p.h can.lower home

  -- what is inside the new sizes, masked by the new and the old ones
  inside : (x y : Bool) (r c : ℕ) → (r < p.h → c < p.w → x ≡ y)
      → ltb r p.h && (ltb c p.w && x) ≡ ltb r p.h && ltb c p.w && (ltb r s.head.h && (ltb c s.head.w && y))
  inside x y r c f = by-test (ltb r p.h)
      (λ a. by-test (ltb c p.w)
      (λ b. rw (a, b, lt-ltb r s.head.h (omega (arith, ltb-true r p.h a, can.lower)), lt-ltb c s.head.w (omega (arith, ltb-true c p.w b, can.narrower))) (f (ltb-true r p.h a) (ltb-true c p.w b)))
      (λ n. rw (a, n)))
      (λ n. rw n)

  mark-inside : (x : Bool) (c : ℕ) → ltb c p.w && x ≡ ltb c p.w && (ltb c s.head.w && x)
  mark-inside x c = by-test (ltb c p.w) (λ b. rw (b, lt-ltb c s.head.w (omega (arith, ltb-true c p.w b, can.narrower)))) (λ n. rw n)

  home-inside : (x c : ℕ) → pick (ltb c p.w) x 0 ≡ pick (ltb c p.w) (pick (ltb c s.head.w) x 0) 0
  home-inside x c = by-test (ltb c p.w) (λ b. rw (b, lt-ltb c s.head.w (omega (arith, ltb-true c p.w b, can.narrower)))) (λ n. rw n)

  at-home-ok : WellFormed (pick (eqb p.w s.head.w) (drop_rows p.h s) (drop_columns p.w (drop_rows p.h s)))
  at-home-ok = by-test (eqb p.w s.head.w)
      (λ e. rw e d-ok)
      (λ n. rw n (drop-columns-ok (drop_rows p.h s) d-ok can.off p.w (can.whole n)))

  at-home-means : table_of (pick (eqb p.w s.head.w) (drop_rows p.h s) (drop_columns p.w (drop_rows p.h s))) ≡ after (Resize p) (table_of s)
  at-home-means = by-test (eqb p.w s.head.w)
      (λ e. let w≡ : s.head.w ≡ p.w = sym (eqb-true p.w s.head.w e) in
      rw e (same-sizes p.h s.head.w p.w s.head.n s.head.n s.head.on _ _ _ _ _ _ w≡ refl
      (λ r c. ap (λ k. ltb r p.h && (ltb c k && cell (drop_rows p.h s) (home_row (drop_rows p.h s) r) c)) w≡
      ∙ inside (cell (drop_rows p.h s) (home_row (drop_rows p.h s) r) c) (cell s (home_row s r) c) r c (λ hr hc. d-cell r c hr (omega (arith, can.narrower))))
      (λ c. ap (λ k. ltb c k && not (eqb (get_or s.index.marks (home_column s c) 0) 0)) w≡ ∙ mark-inside (not (eqb (get_or s.index.marks (home_column s c) 0) 0)) c)
      (λ c. ap (λ k. pick (ltb c k) (home_column s c) 0) w≡ ∙ home-inside (home_column s c) c)))
      (λ n. rw n (same-table p.h p.w 0 s.head.on _ _ _ _ _ _
      (λ r c. inside (cell (drop_columns p.w (drop_rows p.h s)) (home_row (drop_rows p.h s) r) c) (cell s (home_row s r) c) r c
      (λ hr hc. drop-columns-cell (drop_rows p.h s) d-ok can.off p.w (can.whole n) (home_row (drop_rows p.h s) r) c (d-ok.maps.rows.f-below r hr) hc ∙ d-cell r c hr (omega (arith, can.narrower))))
      (λ c. mark-inside (not (eqb (get_or s.index.marks (home_column s c) 0) 0)) c) (λ c. home-inside (home_column s c) c)))

  at-home-room : SameRoom s (pick (eqb p.w s.head.w) (drop_rows p.h s) (drop_columns p.w (drop_rows p.h s)))
  at-home-room = by-test (eqb p.w s.head.w)
      (λ e. rw e (drop-rows-room s v can.off p.h can.lower home))
      (λ n. rw n (room-then s (drop_rows p.h s) (drop_columns p.w (drop_rows p.h s)) (drop-rows-room s v can.off p.h can.lower home)
      (drop-columns-room (drop_rows p.h s) d-ok can.off p.w (can.whole n))))

-- ---- any store: its rows are brought home first
module _ (s : Store) (v : WellFormed s) (p : Shape) (can : CanResize s p) where
  u : Store
  u = brought_home p.h s

  a : AtHome p.h s (brought_home p.h s)
  a = brought-home p.h s v can.off can.lower

  u-can : CanResize (brought_home p.h s) p
  u-can =
      record {
        lower = rw a.head can.lower;
        narrower = rw a.head can.narrower;
        off = rw a.head can.off;
        whole = λ n. rw a.head (can.whole (rw a.head at n));
      }

  same_test : eqb p.w s.head.w ≡ eqb p.w (brought_home p.h s).head.w
  same_test = ap (λ (d : Head). eqb p.w d.w) (sym a.head)

  pub resize-ok : WellFormed (resize p s)
  resize-ok = rw same_test (at-home-ok (brought_home p.h s) a.ok p u-can a.home)

  pub resize-means : table_of (resize p s) ≡ after (Resize p) (table_of s)
  resize-means =
      ap (λ b. table_of (pick b (drop_rows p.h (brought_home p.h s)) (drop_columns p.w (drop_rows p.h (brought_home p.h s))))) same_test
      ∙ at-home-means (brought_home p.h s) a.ok p u-can a.home
      ∙ ap (after (Resize p)) a.means

  pub resize-room : SameRoom s (resize p s)
  resize-room = rw same_test (room-then s (brought_home p.h s) (pick (eqb p.w (brought_home p.h s).head.w) (drop_rows p.h (brought_home p.h s)) (drop_columns p.w (drop_rows p.h (brought_home p.h s))))
      a.room (at-home-room (brought_home p.h s) a.ok p u-can a.home))
