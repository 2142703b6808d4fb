-- ON and OFF on a store: it stays well-formed, and its table is the plain table's. Assumes nothing.
use mathlib.Core.Path.{◌≡◌, refl}
use mathlib.Core.Bool.{Bool, true, false, not, ◌&&◌}
use Prim.Native.Nat.{ℕ, suc, ◌≤◌}
use native.Mathlib.Omega.{arith}
use lib.Dec.{ltb, eqb}
use lib.ListN.{length, get_or}
use Rattle.laws.specs.Parts.{zeros}
use Rattle.laws.proofs.Bools.{not-both, and-false}
use Rattle.laws.proofs.Parts.{zeros-length, zeros-at, joined_length}
use Rattle.arraymap.specs.Index.{Rows, holders, start_of, ones_of}
use Rattle.arraymap.proofs.Whole.{ones-total}
use Rattle.arraymap.proofs.Means.{starts-length, entries-length, built-ok}
use Rattle.table.specs.declared.Op.TheVariants.{On, Off}
use Rattle.table.specs.Step.{after}
use Rattle.model.specs.Store.{Index, Store, edge, row, home_column, table_of}
use Rattle.model.specs.WellFormed.{WellFormed, Switched}
use Rattle.model.specs.Change.{with_index, index_on, index_off}
use Rattle.model.proofs.Same.{same-table}
use Rattle.model.proofs.SameRoom.{SameRoom}

-- the rows of a well-formed store, as the index sees them
pub index-rows : (s : Store) → WellFormed s → Rows s.slots.entries s.slots.counts s.head.h s.head.slots s.head.made
index-rows s v =
    record {
      low-h = omega (arith, v.limits.height);
      low-k = v.limits.slots;
      room = v.limits.entries;
      long = v.limits.counts;
      fit = v.rows.room;
      row = λ y hy. record { rises = v.rows.rising y hy; inside = λ z m. v.rows.home y z hy m };
    }

-- another index, long enough and right, in a well-formed store
with_index-ok : (s : Store) → WellFormed s → (b : Bool) (ix : Index) → s.head.made ≤ length ix.marks → suc s.head.made ≤ length ix.starts
    → Switched (with_index s b ix) → WellFormed (with_index s b ix)
with_index-ok s v b ix marks starts sw =
    record {
      maps = record { rows = v.maps.rows; columns = v.maps.columns; wide = v.maps.wide };
      rows = record { room = v.rows.room; rising = v.rows.rising; home = v.rows.home; sparse = v.rows.sparse };
      tail = record { padding = v.tail.padding };
      index = sw;
      limits =
          record {
            height = v.limits.height;
            width = v.limits.width;
            tail = v.limits.tail;
            slots = v.limits.slots;
            entries = v.limits.entries;
            counts = v.limits.counts;
            marks = marks;
            starts = starts;
            words = v.limits.words;
          };
      unused =
          record {
            slots = v.unused.slots;
            entries = v.unused.entries;
            counts = v.unused.counts;
            row-homes = v.unused.row-homes;
            row-logicals = v.unused.row-logicals;
            column-homes = v.unused.column-homes;
            column-logicals = v.unused.column-logicals;
            words = v.unused.words;
          };
    }

module _ (s : Store) (v : WellFormed s) where
  marks-long : s.head.made ≤ length (zeros (length s.index.marks))
  marks-long = rw (zeros-length (length s.index.marks)) v.limits.marks

  -- every mark is exact
  no-marks : (c : ℕ) → ltb c s.head.w && not (eqb (get_or (zeros (length s.index.marks)) (home_column s c) 0) 0) ≡ false
  no-marks c = rw (zeros-at (length s.index.marks) (home_column s c)) (and-false (ltb c s.head.w))

  -- ---- ON, with room for all sparse ones
  module _ (room : ones_of s.slots.counts s.head.h ≤ length s.index.entries) where
    fits : start_of (holders (row s) s.head.h) s.head.made ≤ length s.index.entries
    unfolding start_of
    fits = omega (
      arith,
      joined_length s.head.made (holders (row s) s.head.h),
      ones-total s.slots.entries s.slots.counts s.head.h s.head.slots s.head.made (index-rows s v),
    )

    pub on-ok : WellFormed (index_on s)
    on-ok = with_index-ok s v true _ marks-long
        (rw (starts-length (row s) s.head.h s.head.made (length s.index.starts) (length s.index.entries) v.limits.starts fits) v.limits.starts)
        (record {
          on = λ e. built-ok (row s) s.head.h s.head.made (length s.index.starts) (length s.index.entries) v.limits.starts fits
              (λ y hy. (index-rows s v).row y hy) s.columns.logicals (zeros (length s.index.marks)) (edge s) (λ i. zeros-at (length s.index.marks) i);
          off-starts = λ e. not-both {b = true} refl e;
          off-entries = λ e. not-both {b = true} refl e;
          off-marks = λ e. not-both {b = true} refl e;
        })

    pub on_room : SameRoom s (index_on s)
    on_room =
        record {
          slots = refl;
          entries = refl;
          counts = refl;
          row-homes = refl;
          row-logicals = refl;
          column-homes = refl;
          column-logicals = refl;
          marks = zeros-length (length s.index.marks);
          starts = starts-length (row s) s.head.h s.head.made (length s.index.starts) (length s.index.entries) v.limits.starts fits;
          index = entries-length (row s) s.head.h s.head.made (length s.index.starts) (length s.index.entries) v.limits.starts fits;
          words = refl;
        }

  pub on-means : table_of (index_on s) ≡ after On (table_of s)
  on-means = same-table s.head.h s.head.w s.head.n true _ _ _ _ _ _ (λ r c. refl) no-marks (λ c. refl)

  -- ---- OFF
  pub off-ok : WellFormed (index_off s)
  off-ok = with_index-ok s v false _ marks-long
      (rw (zeros-length (length s.index.starts)) v.limits.starts)
      (record {
        on = λ e. not-both e refl;
        off-starts = λ e i h. zeros-at (length s.index.starts) i;
        off-entries = λ e i h. zeros-at (length s.index.entries) i;
        off-marks = λ e i h. zeros-at (length s.index.marks) i;
      })

  pub off-means : table_of (index_off s) ≡ after Off (table_of s)
  off-means = same-table s.head.h s.head.w s.head.n false _ _ _ _ _ _ (λ r c. refl) no-marks (λ c. refl)

  pub off-room : SameRoom s (index_off s)
  off-room =
      record {
        slots = refl;
        entries = refl;
        counts = refl;
        row-homes = refl;
        row-logicals = refl;
        column-homes = refl;
        column-logicals = refl;
        marks = zeros-length (length s.index.marks);
        starts = zeros-length (length s.index.starts);
        index = zeros-length (length s.index.entries);
        words = refl;
      }
