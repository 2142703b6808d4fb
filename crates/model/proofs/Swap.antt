-- SWAPR and SWAPC on a store: it stays well-formed, and its table is the plain table's. Assumes nothing.
use mathlib.Core.Path.{◌≡◌, refl, sym, ap, ◌∙◌}
use mathlib.Core.Bool.{false, ◌&&◌}
use Prim.Native.Nat.{ℕ, ◌≤◌, ◌<◌}
use native.Mathlib.Omega.{arith}
use lib.Dec.{ltb}
use borrow.Author.Tests.{ltb-true, ltb-false, lt-ltb, ne_eqb}
use Rattle.laws.specs.Plain.{exchange}
use Rattle.laws.proofs.Bools.{by-test}
use Rattle.laws.proofs.Numbers.{exchange-below, exchange-ltb}
use Rattle.permutation.proofs.Maps.{swapped_at, swapped-past, turned-at, turned-past, exchanged}
use Rattle.arraymap.specs.Check.{IndexOk}
use Rattle.table.specs.declared.Two.{Two}
use Rattle.table.specs.declared.Op.TheVariants.{SwapR, SwapC}
use Rattle.table.specs.Step.{after}
use Rattle.model.specs.Store.{Store, edge, row, home_row, home_column, logical_column, cell, table_of}
use Rattle.model.specs.WellFormed.{WellFormed}
use Rattle.model.specs.Change.{swap_rows, swap_columns}
use Rattle.model.proofs.Same.{same-table}

-- ---- rows
module _ (s : Store) (v : WellFormed s) (p : Two) (hi : p.i < s.head.h) (hj : p.j < s.head.h) where
  pub swapr-ok : WellFormed (swap_rows p s)
  swapr-ok =
      record {
        maps =
            record {
              rows = exchanged s.head.h s.rows.homes s.rows.logicals v.maps.rows p.i p.j hi hj;
              columns = v.maps.columns;
              wide = v.maps.wide;
            };
        rows = record { room = v.rows.room; rising = v.rows.rising; home = v.rows.home; sparse = v.rows.sparse };
        tail = record { padding = v.tail.padding };
        index = record { on = v.index.on; off-starts = v.index.off-starts; off-entries = v.index.off-entries; off-marks = v.index.off-marks };
        limits =
            record {
              height = v.limits.height;
              width = v.limits.width;
              tail = v.limits.tail;
              slots = v.limits.slots;
              entries = v.limits.entries;
              counts = v.limits.counts;
              marks = v.limits.marks;
              starts = v.limits.starts;
              words = v.limits.words;
            };
        unused =
            record {
              slots = v.unused.slots;
              entries = v.unused.entries;
              counts = v.unused.counts;
              row-homes = λ x hx. swapped-past s.head.h s.rows.homes p.i p.j x hi hj hx ∙ v.unused.row-homes x hx;
              row-logicals = λ x hx. turned-past s.head.h s.rows.homes s.rows.logicals v.maps.rows p.i p.j hi hj x hx ∙ v.unused.row-logicals x hx;
              column-homes = v.unused.column-homes;
              column-logicals = v.unused.column-logicals;
              words = v.unused.words;
            };
      }

  home_at : (r : ℕ) → home_row (swap_rows p s) r ≡ home_row s (exchange p.i p.j r)
  home_at r = swapped_at s.rows.homes p.i p.j r (omega (arith, v.maps.rows.f-long)) (omega (arith, v.maps.rows.f-long))

  pub swapr-means : table_of (swap_rows p s) ≡ after (SwapR p) (table_of s)
  swapr-means = same-table s.head.h s.head.w s.head.n s.head.on _ _ _ _ _ _
      (λ r c. rw (exchange-ltb s.head.h p.i p.j r hi hj) (ap (λ y. ltb r s.head.h && (ltb c s.head.w && cell s y c)) (home_at r)))
      (λ c. refl) (λ c. refl)

-- ---- columns: two sparse ones. Home columns keep their lists and marks; only their logical numbers change
module _ (s : Store) (v : WellFormed s) (p : Two) (hi : p.i < edge s) (hj : p.j < edge s) where
  wi : p.i < s.head.w
  wi = omega arith

  wj : p.j < s.head.w
  wj = omega arith

  mi : p.i < s.head.made
  mi = omega (arith, v.maps.wide)

  mj : p.j < s.head.made
  mj = omega (arith, v.maps.wide)

  column-at : (c : ℕ) → home_column (swap_columns p s) c ≡ home_column s (exchange p.i p.j c)
  column-at c = swapped_at s.columns.homes p.i p.j c (omega (arith, v.maps.columns.f-long, mi)) (omega (arith, v.maps.columns.f-long, mj))

  logical-at : (z : ℕ) → z < s.head.made → logical_column (swap_columns p s) z ≡ exchange p.i p.j (logical_column s z)
  logical-at z hz = turned-at s.head.made s.columns.homes s.columns.logicals v.maps.columns p.i p.j mi mj z hz

  still-sparse : (z : ℕ) → z < s.head.made → logical_column s z < edge s → logical_column (swap_columns p s) z < edge s
  still-sparse z hz l = rw (logical-at z hz) (exchange-below (edge s) p.i p.j (logical_column s z) hi hj l)

  was-sparse : (z : ℕ) → z < s.head.made → logical_column (swap_columns p s) z < edge s → logical_column s z < edge s
  was-sparse z hz l =
      ltb-true (logical_column s z) (edge s)
      (sym (exchange-ltb (edge s) p.i p.j (logical_column s z) hi hj) ∙ lt-ltb (exchange p.i p.j (logical_column s z)) (edge s) (rw (logical-at z hz) at l))

  swapped-index : IndexOk (row s) s.head.h s.head.made s.index.starts s.index.entries s.columns.logicals s.index.marks (edge s)
      → IndexOk (row s) s.head.h s.head.made s.index.starts s.index.entries (swap_columns p s).columns.logicals s.index.marks (edge s)
  swapped-index ok =
      record {
        first = ok.first;
        up = ok.up;
        end = ok.end;
        rising = ok.rising;
        below = ok.below;
        all = ok.all;
        only = λ z y hz l e k. ok.only z y hz (was-sparse z hz l) e k;
        mark = ok.mark;
        rest-starts = ok.rest-starts;
        rest-entries = ok.rest-entries;
        rest-marks = ok.rest-marks;
      }

  pub swapc-ok : WellFormed (swap_columns p s)
  swapc-ok =
      record {
        maps =
            record {
              rows = v.maps.rows;
              columns = exchanged s.head.made s.columns.homes s.columns.logicals v.maps.columns p.i p.j mi mj;
              wide = v.maps.wide;
            };
        rows =
            record {
              room = v.rows.room;
              rising = v.rows.rising;
              home = v.rows.home;
              sparse = λ y z hy m. still-sparse z (v.rows.home y z hy m) (v.rows.sparse y z hy m);
            };
        tail = record { padding = v.tail.padding };
        index =
            record {
              on = λ e. swapped-index (v.index.on e);
              off-starts = v.index.off-starts;
              off-entries = v.index.off-entries;
              off-marks = v.index.off-marks;
            };
        limits =
            record {
              height = v.limits.height;
              width = v.limits.width;
              tail = v.limits.tail;
              slots = v.limits.slots;
              entries = v.limits.entries;
              counts = v.limits.counts;
              marks = v.limits.marks;
              starts = v.limits.starts;
              words = v.limits.words;
            };
        unused =
            record {
              slots = v.unused.slots;
              entries = v.unused.entries;
              counts = v.unused.counts;
              row-homes = v.unused.row-homes;
              row-logicals = v.unused.row-logicals;
              column-homes = λ x hx. swapped-past s.head.made s.columns.homes p.i p.j x mi mj hx ∙ v.unused.column-homes x hx;
              column-logicals = λ x hx. turned-past s.head.made s.columns.homes s.columns.logicals v.maps.columns p.i p.j mi mj x hx ∙ v.unused.column-logicals x hx;
              words = v.unused.words;
            };
      }

  -- a column's cell goes with it: a tail column is neither of the two
  swapc-cell : (y c : ℕ) → cell (swap_columns p s) y c ≡ cell s y (exchange p.i p.j c)
  swapc-cell y c = rw (exchange-ltb (edge s) p.i p.j c hi hj, column-at c) (by-test (ltb c (edge s))
      (λ t. rw t)
      (λ n. rw (n, ne_eqb c p.i (λ e. omega (arith, past n)), ne_eqb c p.j (λ e. omega (arith, past n)))))
    where
      past : ltb c (edge s) ≡ false → edge s ≤ c
      past n = ltb-false c (edge s) n

  pub swapc-means : table_of (swap_columns p s) ≡ after (SwapC p) (table_of s)
  swapc-means = same-table s.head.h s.head.w s.head.n s.head.on _ _ _ _ _ _
      (λ r c. rw (exchange-ltb s.head.w p.i p.j c wi wj) (ap (λ b. ltb r s.head.h && (ltb c s.head.w && b)) (swapc-cell (home_row s r) c)))
      (λ c. rw (exchange-ltb s.head.w p.i p.j c wi wj, column-at c))
      (λ c. rw (exchange-ltb s.head.w p.i p.j c wi wj, column-at c))
