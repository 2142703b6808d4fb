-- RESIZE's walks as a whole, on a well-formed store: turn by turn the store is that of the model's steps. Assumes nothing.
use mathlib.Core.Path.{◌≡◌, refl, sym, ap, ◌∙◌}
use mathlib.Core.Bool.{false}
use mathlib.Core.List.{List, []}
use Prim.Native.Nat.{ℕ, ◌+◌, ◌-◌, ◌*◌, ◌≤◌, ◌<◌}
use native.Mathlib.Omega.{arith}
use native.Mathlib.Nat.{mul-le-mul}
use native.Mathlib.Numerals.{add-one}
use borrow.Author.Tests.{eq-eqb, ne_eqb}
use Rattle.laws.specs.Parts.{zeros, put_at}
use Rattle.laws.specs.Words.{words_for}
use Rattle.lent.specs.Stretch.{Stretch}
use Rattle.sparse_vec.specs.Row.{kept_below}
use Rattle.table.specs.declared.Shape.{Shape}
use Rattle.table.specs.declared.Op.TheVariants.{Resize}
use Rattle.model.specs.Store.{Store, row}
use Rattle.model.specs.WellFormed.{WellFormed}
use Rattle.model.specs.Change.{with_row, bring_home, brought_home, drop_rows, kept_columns, drop_columns}
use Rattle.table.specs.Run.{ok}
use Rattle.model.specs.Step.{inner}
use Rattle.model.proofs.BringHome.{AtHome, brought-home}
use Rattle.model.proofs.DropRows.{drop-rows-ok}
use Rattle.model.proofs.DropColumns.{Cut, cut}
use Rattle.model.proofs.Resize.{CanResize}
use Rattle.model.proofs.Passed.{can-resize}
use Rattle.store_head.specs.declared.writing.ShapeMut.{ShapeMut}
use Rattle.store_head.specs.Lent.{full_of}
use Rattle.store_head.specs.Writing.{SameShape}
use Rattle.store_head.specs.Refused.{refusal_of}
use Rattle.store_head.proofs.Ends.{Leaves}
use Rattle.store_head.proofs.Refuses.{past, accepted}

-- two changes one after the other leave the slices that were lent
pub then_same : (a b c : ShapeMut) → SameShape a b → SameShape b c → SameShape a c
then_same a b c p q =
    record {
      slots = p.slots ∙ q.slots;
      counts = p.counts ∙ q.counts;
      row_homes = p.row_homes ∙ q.row_homes;
      row_logicals = p.row_logicals ∙ q.row_logicals;
      column_homes = p.column_homes ∙ q.column_homes;
      column_logicals = p.column_logicals ∙ q.column_logicals;
      marks = p.marks ∙ q.marks;
      starts = p.starts ∙ q.starts;
      entries = p.entries ∙ q.entries;
      words = p.words ∙ q.words;
    }

pub all_same : (a : ShapeMut) → SameShape a a
all_same a =
    record { slots = refl; counts = refl; row_homes = refl; row_logicals = refl; column_homes = refl; column_logicals = refl; marks = refl; starts = refl; entries = refl; words = refl }

module _ (s : Store) (v : WellFormed s) (off : s.head.on ≡ false) where
  -- ---- the rows are brought home
  module _ (u : Store) (r : ℕ) (low : r ≤ s.head.h) (i : u ≡ brought_home r s) where
    a : AtHome r s (brought_home r s)
    a = brought-home r s v off low

    pub home-ok : WellFormed u
    home-ok = rw i a.ok

    pub home-low : r < s.head.h → r < u.head.h
    home-low h = rw (i, a.head) h

  -- ---- the rows are cut to the columns below w
  module _ (w : ℕ) (u : Store) (y : ℕ) (low : y ≤ s.head.h) (i : u ≡ kept_columns y w s) where
    c : Cut y w s (kept_columns y w s)
    c = cut y w s v off low

    pub cut-ok : WellFormed u
    cut-ok = rw i c.ok

    pub cut_low : y < s.head.h → y < u.head.h
    cut_low h = rw (i, c.head) h

    pub cut-next : (t : Store) → t ≡ with_row u y (kept_below u.columns.logicals w (row u y)) → t ≡ kept_columns (y + 1) w s
    unfolding kept_columns
    cut-next t e = e ∙ rw (add-one y, i, c.columns)

    pub words-in : (m : ℕ) → m ≡ words_for s.head.n → Stretch u.words 0 (s.head.h * m)
    words-in m m-is = record { in_order = omega arith; in-it = rw (m-is, i, c.words) v.limits.words }

    pub narrowed : s.head.h ≡ y → (m : ℕ) → m ≡ words_for s.head.n → (W : List ℕ) → W ≡ put_at u.words 0 (zeros (s.head.h * m - 0))
        → ◌≡◌ {A = Store} (record { head = record { h = s.head.h; w = w; n = 0; slots = s.head.slots; made = s.head.made; on = s.head.on }; slots = u.slots; rows = u.rows; columns = u.columns; index = u.index; words = W }) (drop_columns w s)
    narrowed e m m-is W w-is = rw (w-is, m-is, i, c.words, c.rows, c.columns, c.index, e)

  pub words-low : (m : ℕ) → m ≡ words_for s.head.n → s.head.h * m ≤ 65535 * 65535
  words-low m m-is = mul-le-mul {n₂ = 65535} {m₂ = 65535} v.limits.height (omega (arith, m-is, v.limits.tail, v.maps.wide, v.limits.width))

pub home-next : (s u t : Store) (r : ℕ) → u ≡ brought_home r s → t ≡ bring_home u r → t ≡ brought_home (r + 1) s
unfolding brought_home
home-next s u t r i e = e ∙ rw (add-one r, i)

pub home-done : (s u : Store) (r k : ℕ) → r ≡ k → u ≡ brought_home r s → u ≡ brought_home k s
home-done s u r k e i = rw (sym e) i

pub home-start : (s : Store) → s ≡ brought_home 0 s
unfolding brought_home
home-start s = refl

pub cut-start : (s : Store) (w : ℕ) → s ≡ kept_columns 0 w s
unfolding kept_columns
cut-start s w = refl

-- ---- the store at the end
module _ (s : Store) (v : WellFormed s) (p : Shape) (free : 0 ≡ refusal_of (inner (Resize p) (full_of s []))) where
  pub can : CanResize s p
  can = can-resize (full_of s []) v p (past (Resize p) (full_of s []) free).0

  -- the rows are home
  module _ (u : Store) (i : u ≡ brought_home p.h s) where
    home : AtHome p.h s (brought_home p.h s)
    home = brought-home p.h s v can.off can.lower

    pub all_home-ok : WellFormed u
    all_home-ok = rw i home.ok

    pub all_home-low : p.h ≤ u.head.h
    all_home-low = rw (i, home.head) can.lower

    -- the others are dropped
    module _ (t : Store) (o : t ≡ drop_rows p.h u) where
      whole : t ≡ drop_rows p.h (brought_home p.h s)
      whole = o ∙ ap (drop_rows p.h) i

      pub rows_ok : WellFormed t
      rows_ok = rw whole (drop-rows-ok (brought_home p.h s) home.ok (rw home.head can.off) p.h (rw home.head can.lower) home.home)

      pub still-off : t.head.on ≡ false
      still-off = rw (whole, home.head) can.off

      pub rows-done : p.w ≡ s.head.w → Leaves inner (Resize p) s t
      rows-done e = ap (λ (u : Store). record { reply = ok []; after = full_of u [] }) (whole ∙ rw (eq-eqb p.w s.head.w e)) ∙ sym (accepted (Resize p) (full_of s []) free)

      pub columns-done : (p.w ≡ s.head.w → ⊥) → (z : Store) → z ≡ drop_columns p.w t → Leaves inner (Resize p) s z
      columns-done ne z e = ap (λ (u : Store). record { reply = ok []; after = full_of u [] }) (e ∙ ap (drop_columns p.w) whole ∙ rw (ne_eqb p.w s.head.w ne)) ∙ sym (accepted (Resize p) (full_of s []) free)
