-- RESIZE, third step: the columns from w on are dropped by their logical numbers, and the whole tail. Assumes nothing.
use mathlib.Core.Path.{◌≡◌, refl, sym, ap, ◌∙◌}
use mathlib.Core.Bool.{true, false, ◌&&◌}
use mathlib.Core.Logic.{⊎_elim}
use mathlib.Core.List.{List}
use Prim.Native.Nat.{ℕ, zero, suc, ◌-◌, ◌*◌, ◌≤◌, ◌<◌}
use native.Mathlib.Omega.{arith}
use lib.Dec.{ltb, eqb}
use lib.ListN.{length, get_or}
use borrow.Author.Tests.{ltb-true, lt-ltb, eqb-false, ne_eqb}
use Rattle.laws.specs.Plain.{pick}
use Rattle.laws.specs.Rows.{member}
use Rattle.laws.specs.Words.{words_for}
use Rattle.laws.proofs.Bools.{by-test, not-both, and_first, and_second}
use Rattle.laws.proofs.Numbers.{lt-or-le}
use Rattle.sparse_vec.specs.Row.{kept_below}
use Rattle.sparse_vec.proofs.Keeping.{kept-member, kept_from, kept-length}
use Rattle.tail.proofs.Tails.{pad-none}
use Rattle.model.specs.Store.{Store, edge, row, home_column, cell}
use Rattle.model.specs.WellFormed.{WellFormed}
use Rattle.model.specs.Change.{with_row, kept_columns, drop_columns}
use Rattle.model.proofs.Rows.{frame-of, row_at, row-length, with_row-ok}
use Rattle.model.proofs.SetCell.{still-off}
use Rattle.model.proofs.SameRoom.{SameRoom, same-room, room-then, with_row-room}
use Rattle.model.proofs.DropRows.{cleared-length, cleared-rest}

-- u is s with the rows below k cut to the columns below w
pub record Cut (k w : ℕ) (s u : Store) : Type 0 where
  pub ok : WellFormed u
  pub head : u.head ≡ s.head
  pub rows : u.rows ≡ s.rows
  pub columns : u.columns ≡ s.columns
  pub index : u.index ≡ s.index
  pub words : u.words ≡ s.words
  pub room : SameRoom s u
  pub done : (y : ℕ) → y < k → row u y ≡ kept_below s.columns.logicals w (row s y)
  pub left : (y : ℕ) → k ≤ y → y < s.head.h → row u y ≡ row s y

cut-more : (k w : ℕ) (s u : Store) → k < s.head.h → s.head.on ≡ false → Cut k w s u
    → Cut (suc k) w s (with_row u k (kept_below s.columns.logicals w (row u k)))
cut-more k w s u hk off c =
    record {
      ok = with_row-ok u c.ok k ku new short (kept_from (row u k) s.columns.logicals w 0 (c.ok.rows.rising k ku))
          (λ z m. c.ok.rows.home k z ku (was z m)) (λ z m. c.ok.rows.sparse k z ku (was z m)) (still-off u c.ok k new (rw c.head off));
      head = c.head;
      rows = c.rows;
      columns = c.columns;
      index = c.index;
      words = c.words;
      room = room-then s u (with_row u k (kept_below s.columns.logicals w (row u k))) c.room (with_row-room u (edge u) (frame-of u c.ok) k ku (kept_below s.columns.logicals w (row u k)) short);
      done = λ y hy. ⊎_elim
          (λ (l : y < k). at y (omega (arith, ku)) ∙ rw (ne_eqb y k (λ e. omega arith)) (c.done y l))
          (λ (l : k ≤ y). let q : y ≡ k = omega arith in
          rw q (at k ku ∙ same k ∙ ap (kept_below s.columns.logicals w) (c.left k (omega arith) hk)))
          (lt-or-le y k);
      left = λ y l hy. at y (rw c.head hy) ∙ rw (ne_eqb y k (λ e. omega arith)) (c.left y (omega arith) hy);
    }
  where
    ku : k < u.head.h
    ku = rw c.head hk

    new : List ℕ
    new = kept_below s.columns.logicals w (row u k)

    short : length (kept_below s.columns.logicals w (row u k)) ≤ u.head.slots
    short = omega (arith, kept-length (row u k) s.columns.logicals w, row-length u (edge u) (frame-of u c.ok) k ku, c.ok.rows.room k ku)

    was : (z : ℕ) → member z (kept_below s.columns.logicals w (row u k)) ≡ true → member z (row u k) ≡ true
    was z m = and_second (ltb (get_or s.columns.logicals z 0) w) (member z (row u k)) (sym (kept-member (row u k) s.columns.logicals w z) ∙ m)

    at : (y : ℕ) → y < u.head.h → row (with_row u k (kept_below s.columns.logicals w (row u k))) y ≡ pick (eqb y k) (kept_below s.columns.logicals w (row u k)) (row u y)
    at y hy = row_at u (edge u) (frame-of u c.ok) k ku (kept_below s.columns.logicals w (row u k)) short y hy

    same : (y : ℕ) → pick (eqb y y) (kept_below s.columns.logicals w (row u y)) (row u y) ≡ kept_below s.columns.logicals w (row u y)
    same y = by-test (eqb y y) (λ e. rw e) (λ n. absurd (eqb-false y y n refl))

pub cut : (k w : ℕ) (s : Store) → WellFormed s → s.head.on ≡ false → k ≤ s.head.h → Cut k w s (kept_columns k w s)
unfolding kept_columns
cut zero w s v off h =
    record { ok = v; head = refl; rows = refl; columns = refl; index = refl; words = refl; room = same-room s; done = λ y hy. absurd (omega arith); left = λ y l hy. refl }
cut (suc k) w s v off h = cut-more k w s (kept_columns k w s) (omega arith) off (cut k w s v off (omega arith))

module _ (s : Store) (v : WellFormed s) (off : s.head.on ≡ false) (w : ℕ) (hw : w ≤ edge s) where
  u : Store
  u = kept_columns s.head.h w s

  c : Cut s.head.h w s (kept_columns s.head.h w s)
  c = cut s.head.h w s v off (omega arith)

  -- the cut store with its untouched parts written out
  t : Store
  t = record { head = s.head; slots = (kept_columns s.head.h w s).slots; rows = s.rows; columns = s.columns; index = s.index; words = s.words }

  is-t : kept_columns s.head.h w s ≡ t
  unfolding t
  is-t i =
      record {
        head = c.head i;
        slots = (kept_columns s.head.h w s).slots;
        rows = c.rows i;
        columns = c.columns i;
        index = c.index i;
        words = c.words i;
      }

  t-ok : WellFormed t
  t-ok = rw (← is-t) c.ok

  t-row : (y : ℕ) → y < s.head.h → row t y ≡ kept_below s.columns.logicals w (row s y)
  t-row y hy = ap (λ k. row k y) (sym is-t) ∙ c.done y hy

  in_row : (y z : ℕ) → y < s.head.h → member z (row t y) ≡ ltb (get_or s.columns.logicals z 0) w && member z (row s y)
  in_row y z hy = ap (member z) (t-row y hy) ∙ kept-member (row s y) s.columns.logicals w z

  pub drop-columns-ok : WellFormed (drop_columns w s)
  unfolding t
  drop-columns-ok =
      record {
        maps = record { rows = v.maps.rows; columns = v.maps.columns; wide = omega (arith, v.maps.wide) };
        rows =
            record {
              room = t-ok.rows.room;
              rising = t-ok.rows.rising;
              home = t-ok.rows.home;
              sparse = λ y z hy m. omega (arith, ltb-true (get_or s.columns.logicals z 0) w (and_first (ltb (get_or s.columns.logicals z 0) w) (member z (row s y)) (sym (in_row y z hy) ∙ m)));
            };
        tail = record { padding = λ y hy. pad-none (drop_columns w s).words 0 y refl };
        index =
            record {
              on = λ e. not-both e off;
              off-starts = v.index.off-starts;
              off-entries = v.index.off-entries;
              off-marks = v.index.off-marks;
            };
        limits =
            record {
              height = v.limits.height;
              width = v.limits.width;
              tail = omega arith;
              slots = v.limits.slots;
              entries = t-ok.limits.entries;
              counts = t-ok.limits.counts;
              marks = v.limits.marks;
              starts = v.limits.starts;
              words = omega arith;
            };
        unused =
            record {
              slots = t-ok.unused.slots;
              entries = t-ok.unused.entries;
              counts = t-ok.unused.counts;
              row-homes = v.unused.row-homes;
              row-logicals = v.unused.row-logicals;
              column-homes = v.unused.column-homes;
              column-logicals = v.unused.column-logicals;
              words = λ i h. cleared-rest s.words 0 (s.head.h * words_for s.head.n) (omega arith) v.limits.words v.unused.words i (omega arith);
            };
      }

  -- a kept column's cells stay: it was a sparse one
  pub drop-columns-cell : (y k : ℕ) → y < s.head.h → k < w → cell (drop_columns w s) y k ≡ cell s y k
  unfolding t
  drop-columns-cell y k hy hk =
      let low : k < edge s = omega arith in
      let made : k < s.head.made = omega (arith, v.maps.wide) in
      rw (lt-ltb k (w - 0) (omega arith), lt-ltb k (edge s) low)
      (in_row y (home_column s k) hy ∙ rw (v.maps.columns.back k made, lt-ltb k w hk))

  pub drop-columns-room : SameRoom s (drop_columns w s)
  drop-columns-room =
      record {
        slots = refl;
        entries = c.room.entries;
        counts = c.room.counts;
        row-homes = refl;
        row-logicals = refl;
        column-homes = refl;
        column-logicals = refl;
        marks = refl;
        starts = refl;
        index = refl;
        words = cleared-length s.words 0 (s.head.h * words_for s.head.n) (omega arith) v.limits.words;
      }
