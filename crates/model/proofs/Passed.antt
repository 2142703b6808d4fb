-- What the table's checks leave of each operation, in the store's own numbers. Assumes nothing.
use mathlib.Core.Path.{◌≡◌, refl, sym, ◌∙◌}
use mathlib.Core.Bool.{Bool, true, false, not, ◌&&◌, ◌||◌, true≢false}
use mathlib.Core.Logic.{inl, inr}
use mathlib.Core.List.{List, [], ◌∷◌}
use Prim.Native.Nat.{ℕ, suc, ◌-◌, ◌*◌, ◌≤◌, ◌<◌}
use native.Mathlib.Omega.{arith}
use lib.Dec.{ltb, eqb}
use lib.ListN.{length}
use borrow.Author.Tests.{ltb-false, leb-false, lt-ltb, lt-leb, eqb-true, eqb-false, eq-eqb, not-false}
use Rattle.laws.specs.Rows.{member}
use Rattle.laws.specs.Words.{words_for}
use Rattle.laws.proofs.Bools.{by-test, not-both, or-first, or-second, quiet-first, quiet-rest}
use Rattle.arraymap.specs.Index.{ones_of}
use Rattle.table.specs.declared.Sizes.{Sizes}
use Rattle.table.specs.declared.SetCell.{SetCell}
use Rattle.table.specs.declared.Two.{Two}
use Rattle.table.specs.declared.Addition.{Addition}
use Rattle.table.specs.declared.Column.{Column}
use Rattle.table.specs.declared.Shape.{Shape}
use Rattle.table.specs.declared.Op.TheVariants.{Make, Set, SwapR, SwapC, Add, On, Freeze, Resize}
use Rattle.table.specs.Table.{Table, sparse_ones, row_count, all_ones}
use Rattle.table.specs.Step.{checks, after, row_past, column_past, in_tail, not_single, height_limit, width_limit, slot_limit}
use Rattle.table.specs.Room.{Room, room_checks, passes}
use Rattle.model.specs.Store.{Store, Full, edge, row, home_row, home_column, table_of, lent_of, held_of}
use Rattle.model.specs.WellFormed.{WellFormed}
use Rattle.model.specs.Change.{set_row}
use Rattle.model.proofs.Make.{CanMake}
use Rattle.model.proofs.AddMeans.{Single, CanAddRows}
use Rattle.model.proofs.Freeze.{CanFreeze}
use Rattle.model.proofs.Resize.{CanResize}
use Rattle.model.proofs.Walk.{all_ones_lem}
use Rattle.model.proofs.Counts.{single-means, set-count, add-count}

-- a check that stands alone and did not fire
quiet : (b : Bool) → not b && true ≡ true → b ≡ false
quiet b e = quiet-first b true e

-- what SET's checks leave: a cell, and in a sparse column the index off and room for what the row then holds
pub record CanSet (s : Store) (p : SetCell) : Type 0 where
  pub row_in : p.r < s.head.h
  pub column-in : p.c < s.head.w
  pub sparse : p.c < edge s → (s.head.on ≡ false) × (length (set_row (not (eqb p.v 0)) (home_column s p.c) (row s (home_row s p.r))) ≤ s.head.slots)

module _ (f : Full) where
  abbrev s : Store
  s = f.store

  abbrev t : Table
  t = table_of f.store

  abbrev m : Room
  m = (held_of f).room

  -- ---- MAKE: no store needed
  pub can-make : (p : Sizes) → passes (checks (Make p) t) ≡ true → passes (room_checks m (Make p) t) ≡ true → CanMake p f.store
  can-make p a b =
      let two : ((ltb height_limit p.h || ltb width_limit p.w) || ltb p.w p.n) || ltb slot_limit p.slots ≡ false = quiet _ a in
      let two3 = or-first ((ltb height_limit p.h || ltb width_limit p.w) || ltb p.w p.n) (ltb slot_limit p.slots) two in
      let two2 = or-first (ltb height_limit p.h || ltb width_limit p.w) (ltb p.w p.n) two3 in
      let l = lent_of f in
      let c1 = ltb l.slot_entries (p.h * p.slots) in
      let c2 = ltb l.row_counts p.h in
      let c3 = ltb l.row_homes p.h in
      let c4 = ltb l.row_logicals p.h in
      let c5 = ltb l.column_homes p.w in
      let c6 = ltb l.column_logicals p.w in
      let c7 = ltb l.marks p.w in
      let c8 = ltb l.starts (suc p.w) in
      let c9 = ltb l.words (p.h * words_for p.n) in
      let n9 : (((((((c1 || c2) || c3) || c4) || c5) || c6) || c7) || c8) || c9 ≡ false = quiet _ b in
      let n8 = or-first (((((((c1 || c2) || c3) || c4) || c5) || c6) || c7) || c8) c9 n9 in
      let n7 = or-first ((((((c1 || c2) || c3) || c4) || c5) || c6) || c7) c8 n8 in
      let n6 = or-first (((((c1 || c2) || c3) || c4) || c5) || c6) c7 n7 in
      let n5 = or-first ((((c1 || c2) || c3) || c4) || c5) c6 n6 in
      let n4 = or-first (((c1 || c2) || c3) || c4) c5 n5 in
      let n3 = or-first ((c1 || c2) || c3) c4 n4 in
      let n2 = or-first (c1 || c2) c3 n3 in
      record {
        height = ltb-false height_limit p.h (or-first (ltb height_limit p.h) (ltb width_limit p.w) two2);
        width = ltb-false width_limit p.w (or-second (ltb height_limit p.h) (ltb width_limit p.w) two2);
        tail = ltb-false p.w p.n (or-second (ltb height_limit p.h || ltb width_limit p.w) (ltb p.w p.n) two3);
        slots = ltb-false slot_limit p.slots (or-second ((ltb height_limit p.h || ltb width_limit p.w) || ltb p.w p.n) (ltb slot_limit p.slots) two);
        entries = ltb-false l.slot_entries (p.h * p.slots) (or-first c1 c2 n2);
        counts = ltb-false l.row_counts p.h (or-second c1 c2 n2);
        row-homes = ltb-false l.row_homes p.h (or-second (c1 || c2) c3 n3);
        row-logicals = ltb-false l.row_logicals p.h (or-second ((c1 || c2) || c3) c4 n4);
        column-homes = ltb-false l.column_homes p.w (or-second (((c1 || c2) || c3) || c4) c5 n5);
        column-logicals = ltb-false l.column_logicals p.w (or-second ((((c1 || c2) || c3) || c4) || c5) c6 n6);
        marks = ltb-false l.marks p.w (or-second (((((c1 || c2) || c3) || c4) || c5) || c6) c7 n7);
        starts = ltb-false l.starts (suc p.w) (or-second ((((((c1 || c2) || c3) || c4) || c5) || c6) || c7) c8 n8);
        words = ltb-false l.words (p.h * words_for p.n) (or-second (((((((c1 || c2) || c3) || c4) || c5) || c6) || c7) || c8) c9 n9);
      }

  module _ (v : WellFormed f.store) where
    -- ---- SET
    pub can-set : (p : SetCell) → passes (checks (Set p) t) ≡ true → passes (room_checks m (Set p) t) ≡ true → CanSet f.store p
    can-set p a b =
        let four = row_past t p.r in
        let five = column_past t p.c in
        let nine = t.on && not (in_tail t p.c) in
        let a1 = quiet-rest four (not five && (not nine && true)) a in
        let r-in : p.r < s.head.h = leb-false s.head.h p.r (quiet-first four (not five && (not nine && true)) a) in
        let nine-off : nine ≡ false = quiet-first nine true (quiet-rest five (not nine && true) a1) in
        record {
          row_in = r-in;
          column-in = leb-false s.head.w p.c (quiet-first five (not nine && true) a1);
          sparse = λ low. (
            by-test s.head.on (λ o. not-both {b = true} refl (sym (rw (o, lt-leb (edge s) p.c low)) ∙ nine-off)) (λ n. n),
            rw (set-count s v p r-in low) at (ltb-false s.head.slots (row_count (after (Set p) t) p.r) (quiet _ b)),
          );
        }

    -- ---- SWAPR, SWAPC
    pub can-swapr : (p : Two) → passes (checks (SwapR p) t) ≡ true → (p.i < s.head.h) × (p.j < s.head.h)
    can-swapr p a =
        let four : row_past t p.i || row_past t p.j ≡ false = quiet _ a in
        (leb-false s.head.h p.i (or-first (row_past t p.i) (row_past t p.j) four), leb-false s.head.h p.j (or-second (row_past t p.i) (row_past t p.j) four))

    pub can-swapc : (p : Two) → passes (checks (SwapC p) t) ≡ true → (p.i < edge s) × (p.j < edge s)
    can-swapc p a =
        let six : in_tail t p.i || in_tail t p.j ≡ false = quiet _ (quiet-rest (column_past t p.i || column_past t p.j) (not (in_tail t p.i || in_tail t p.j) && true) a) in
        (leb-false (edge s) p.i (or-first (in_tail t p.i) (in_tail t p.j) six), leb-false (edge s) p.j (or-second (in_tail t p.i) (in_tail t p.j) six))

    -- ---- ON
    pub can-on : passes (room_checks m On t) ≡ true → ones_of s.slots.counts s.head.h ≤ length s.index.entries
    can-on b = rw (all_ones_lem s v) at (ltb-false (length s.index.entries) (all_ones t) (quiet _ b))

    -- ---- FREEZE
    pub can-freeze : (p : Column) → passes (checks (Freeze p) t) ≡ true → passes (room_checks m (Freeze p) t) ≡ true → CanFreeze f.store p.c
    can-freeze p a b =
        let five = column_past t p.c in
        let six = not (eqb (suc p.c) (edge s)) in
        let nine = not t.on in
        let a1 = quiet-rest five (not six && (not nine && true)) a in
        record {
          last = eqb-true (suc p.c) (edge s) (not-false (eqb (suc p.c) (edge s)) (quiet-first six (not nine && true) a1));
          on = not-false s.head.on (quiet-first nine true (quiet-rest six (not nine && true) a1));
          room = ltb-false (length s.words) (s.head.h * words_for (suc s.head.n)) (quiet _ b);
        }

    -- ---- RESIZE
    pub can-resize : (p : Shape) → passes (checks (Resize p) t) ≡ true → CanResize f.store p
    can-resize p a =
        let grows = ltb t.h p.h || ltb t.w p.w in
        let cuts = ltb 0 (t.w - p.w) && ltb (t.w - p.w) t.n in
        let eight : grows || cuts ≡ false = quiet-first (grows || cuts) (not t.on && true) a in
        let low : p.h ≤ s.head.h = ltb-false t.h p.h (or-first (ltb t.h p.h) (ltb t.w p.w) (or-first grows cuts eight)) in
        let thin : p.w ≤ s.head.w = ltb-false t.w p.w (or-second (ltb t.h p.h) (ltb t.w p.w) (or-first grows cuts eight)) in
        record {
          lower = low;
          narrower = thin;
          off = quiet-first t.on true (quiet-rest (grows || cuts) (not t.on && true) a);
          whole = λ n.
              let ne : p.w ≡ s.head.w → ⊥ = eqb-false p.w s.head.w n in
              let c : s.head.n ≤ s.head.w - p.w = ltb-false (t.w - p.w) t.n (rw (lt-ltb 0 (t.w - p.w) (omega arith)) at (or-second grows cuts eight)) in
              omega arith;
        }

    -- ---- ADD
    single_of : (y x : ℕ) (l : List ℕ) → row s x ≡ l → not_single l (λ z. member z (row s y)) ≡ false → Single f.store y x
    single_of y x [] q e = absurd (true≢false e)
    single_of y x (z ∷ []) q e = record { z = z; one = q; has = not-false (member z (row f.store y)) e }
    single_of y x (z ∷ w ∷ l) q e = absurd (true≢false e)

    pub can-add : (p : Addition) → passes (checks (Add p) t) ≡ true → passes (room_checks m (Add p) t) ≡ true → CanAddRows f.store p
    can-add p a b =
        let four = row_past t p.d || row_past t p.s in
        let six = not (eqb p.start 0) && not (eqb p.start (edge s)) in
        let seven = eqb p.d p.s in
        let ten = eqb p.start 0 && t.on && not_single (sparse_ones t p.s) (t.bit p.d) in
        let four-off : four ≡ false = quiet-first four (not six && (not seven && (not ten && true))) a in
        let a1 = quiet-rest four (not six && (not seven && (not ten && true))) a in
        let six-off : six ≡ false = quiet-first six (not seven && (not ten && true)) a1 in
        let a2 = quiet-rest six (not seven && (not ten && true)) a1 in
        let ten-off : ten ≡ false = quiet-first ten true (quiet-rest seven (not ten && true) a2) in
        let d-low : p.d < s.head.h = leb-false s.head.h p.d (or-first (row_past t p.d) (row_past t p.s) four-off) in
        let s-low : p.s < s.head.h = leb-false s.head.h p.s (or-second (row_past t p.d) (row_past t p.s) four-off) in
        record {
          d-in = d-low;
          s-in = s-low;
          differ = λ e. not-both (eq-eqb p.d p.s e) (quiet-first seven (not ten && true) a2);
          start = by-test (eqb p.start 0)
              (λ e. inl (eqb-true p.start 0 e))
              (λ n. inr (eqb-true p.start (edge s) (not-false (eqb p.start (edge s)) (rw n at six-off))));
          short = λ z0. rw (add-count s v p d-low s-low z0) at (ltb-false s.head.slots (row_count (after (Add p) t) p.d) (quiet _ b));
          single = λ z0 on. single_of (home_row s p.d) (home_row s p.s) (row s (home_row s p.s)) refl
              (sym (single-means s v p.d p.s d-low s-low) ∙ third (eqb p.start 0) t.on (not_single (sparse_ones t p.s) (t.bit p.d)) (eq-eqb p.start 0 z0) on ten-off);
        }
      where
        third : (a b c : Bool) → a ≡ true → b ≡ true → a && b && c ≡ false → c ≡ false
        third a b c p q e = sym (rw (p, q)) ∙ e
