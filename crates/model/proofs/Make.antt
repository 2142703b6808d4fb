-- MAKE over any lent numbers, where there is room: a well-formed store whose table is all zero. Assumes nothing.
use mathlib.Core.Path.{◌≡◌, refl, ap}
use mathlib.Core.Bool.{Bool, true, false, ◌&&◌}
use mathlib.Core.List.{List, []}
use Prim.Native.Nat.{ℕ, suc, ◌+◌, ◌-◌, ◌*◌, ◌/◌, ◌%◌, ◌^◌, ◌≤◌}
use native.Mathlib.Omega.{arith}
use native.Mathlib.Nat.{zero-mod}
use lib.Dec.{ltb}
use lib.ListN.{length, get_or, take, drop}
use borrow.Author.Tests.{ltb-true, eq-eqb}
use Rattle.laws.specs.Rows.{member}
use Rattle.laws.specs.Maps.{Inverse}
use Rattle.laws.specs.Parts.{zeros, part, row_of}
use Rattle.laws.specs.Words.{words_for, padding}
use Rattle.laws.proofs.Bools.{by-test, not-both, and-false}
use Rattle.laws.proofs.Parts.{zeros-length, zeros-at}
use Rattle.permutation.specs.Maps.{identity}
use Rattle.permutation.proofs.Identity.{identity-length, identity-low, identity-high}
use Rattle.tail.specs.Tail.{tail_bit, pad_clear}
use Rattle.tail.proofs.Digits.{digit-zero}
use Rattle.table.specs.declared.Sizes.{Sizes}
use Rattle.table.specs.declared.Op.TheVariants.{Make}
use Rattle.table.specs.Table.{Table}
use Rattle.table.specs.Room.{Room}
use Rattle.table.specs.Step.{after, height_limit, width_limit, slot_limit}
use Rattle.model.specs.Store.{Store, Full, edge, row, home_row, home_column, cell, table_of, lent_of}
use Rattle.model.specs.WellFormed.{WellFormed}
use Rattle.model.specs.Change.{made}
use Rattle.model.proofs.Same.{same-table}

-- what MAKE's checks leave
pub record CanMake (p : Sizes) (s : Store) : Type 0 where
  pub height : p.h ≤ height_limit
  pub width : p.w ≤ width_limit
  pub tail : p.n ≤ p.w
  pub slots : p.slots ≤ slot_limit
  pub entries : p.h * p.slots ≤ length s.slots.entries
  pub counts : p.h ≤ length s.slots.counts
  pub row-homes : p.h ≤ length s.rows.homes
  pub row-logicals : p.h ≤ length s.rows.logicals
  pub column-homes : p.w ≤ length s.columns.homes
  pub column-logicals : p.w ≤ length s.columns.logicals
  pub marks : p.w ≤ length s.index.marks
  pub starts : suc p.w ≤ length s.index.starts
  pub words : p.h * words_for p.n ≤ length s.words

-- an empty row lists nothing
no_row : (l c : List ℕ) (k y : ℕ) → get_or c y 0 ≡ 0 → row_of l c k y ≡ []
unfolding row_of part
no_row l c k y e = rw e (none (drop (y * k) l))
  where
    none : (m : List ℕ) → take 0 m ≡ []
    none m = refl

-- each number for itself, in lists of two lengths
identities : (k a b : ℕ) → k ≤ a → k ≤ b → Inverse k (identity a k) (identity b k)
identities k a b ha hb =
    record {
      f-long = rw (identity-length a k ha) ha;
      g-long = rw (identity-length b k hb) hb;
      f-below = λ i l. rw (identity-low a k i l) l;
      g-below = λ i l. rw (identity-low b k i l) l;
      back = λ i l. rw (identity-low a k i l) (identity-low b k i l);
      forth = λ i l. rw (identity-low b k i l) (identity-low a k i l);
    }

module _ (p : Sizes) (s : Store) (can : CanMake p s) where
  m : Store
  m = made p s

  empty-row : (y : ℕ) → row (made p s) y ≡ []
  empty-row y = no_row (zeros (length s.slots.entries)) (zeros (length s.slots.counts)) p.slots y (zeros-at (length s.slots.counts) y)

  no-padding : (y : ℕ) → pad_clear (zeros (length s.words)) p.n y ≡ true
  unfolding pad_clear
  no-padding y = rw (zeros-at (length s.words) (y * words_for p.n)) (eq-eqb (0 % 2 ^ padding p.n) 0 (zero-mod (2 ^ padding p.n)))

  not_in : (y z : ℕ) → member z (row (made p s) y) ≡ false
  unfolding member
  not_in y z = ap (member z) (empty-row y)

  pub make-ok : WellFormed (made p s)
  make-ok =
      record {
        maps =
            record {
              rows = identities p.h (length s.rows.homes) (length s.rows.logicals) can.row-homes can.row-logicals;
              columns = identities p.w (length s.columns.homes) (length s.columns.logicals) can.column-homes can.column-logicals;
              wide = omega arith;
            };
        rows =
            record {
              room = λ y hy. rw (zeros-at (length s.slots.counts) y) (omega arith);
              rising = λ y hy. rw (empty-row y) tt;
              home = λ y z hy k. not-both k (not_in y z);
              sparse = λ y z hy k. not-both k (not_in y z);
            };
        tail = record { padding = λ y hy. no-padding y };
        index =
            record {
              on = λ e. not-both e refl;
              off-starts = λ e i h. zeros-at (length s.index.starts) i;
              off-entries = λ e i h. zeros-at (length s.index.entries) i;
              off-marks = λ e i h. zeros-at (length s.index.marks) i;
            };
        limits =
            record {
              height = can.height;
              width = can.width;
              tail = can.tail;
              slots = can.slots;
              entries = rw (zeros-length (length s.slots.entries)) can.entries;
              counts = rw (zeros-length (length s.slots.counts)) can.counts;
              marks = rw (zeros-length (length s.index.marks)) can.marks;
              starts = rw (zeros-length (length s.index.starts)) can.starts;
              words = rw (zeros-length (length s.words)) can.words;
            };
        unused =
            record {
              slots = λ y k hy low high. zeros-at (length s.slots.entries) (y * p.slots + k);
              entries = λ i h. zeros-at (length s.slots.entries) i;
              counts = λ i h. zeros-at (length s.slots.counts) i;
              row-homes = λ i h. identity-high (length s.rows.homes) p.h i h;
              row-logicals = λ i h. identity-high (length s.rows.logicals) p.h i h;
              column-homes = λ i h. identity-high (length s.columns.homes) p.w i h;
              column-logicals = λ i h. identity-high (length s.columns.logicals) p.w i h;
              words = λ i h. zeros-at (length s.words) i;
            };
      }

  no_cell : (y c : ℕ) → cell (made p s) y c ≡ false
  unfolding tail_bit
  no_cell y c = by-test (ltb c (edge (made p s)))
      (λ t. rw t (not_in y (home_column (made p s) c)))
      (λ n. rw (n, zeros-at (length s.words) (y * words_for p.n + (padding p.n + (c - (p.w - p.n))) / 64)) (digit-zero ((padding p.n + (c - (p.w - p.n))) % 64)))

  pub make-means : (t : Table) → table_of (made p s) ≡ after (Make p) t
  make-means t = same-table p.h p.w p.n false _ _ _ _ _ _
      (λ r c. rw (no_cell (home_row (made p s) r) c) (nothing (ltb r p.h) (ltb c p.w)))
      (λ c. rw (zeros-at (length s.index.marks) (home_column (made p s) c)) (and-false (ltb c p.w)))
      (λ c. by-test (ltb c p.w) (λ e. rw e (identity-low (length s.columns.homes) p.w c (ltb-true c p.w e))) (λ n. rw n))
    where
      nothing : (a b : Bool) → a && (b && false) ≡ false
      nothing true true = refl
      nothing true false = refl
      nothing false b = refl

-- what is lent stays, and the new slots hold
pub make-room : (p : Sizes) (f : Full) → CanMake p f.store
    → ◌≡◌ {A = Room} (record { lent = lent_of (record { store = made p f.store; answers = f.answers }); slots = p.slots }) (record { lent = lent_of f; slots = p.slots })
make-room p f can i =
    let s : Store = f.store in
    record {
      lent =
          record {
            slot_entries = zeros-length (length s.slots.entries) i;
            row_counts = zeros-length (length s.slots.counts) i;
            row_homes = identity-length (length s.rows.homes) p.h can.row-homes i;
            row_logicals = identity-length (length s.rows.logicals) p.h can.row-logicals i;
            column_homes = identity-length (length s.columns.homes) p.w can.column-homes i;
            column_logicals = identity-length (length s.columns.logicals) p.w can.column-logicals i;
            marks = zeros-length (length s.index.marks) i;
            starts = zeros-length (length s.index.starts) i;
            entries = zeros-length (length s.index.entries) i;
            words = zeros-length (length s.words) i;
            answers = length f.answers;
          };
      slots = p.slots;
    }
