-- Two stores lent as much of everything, with the same slots: their room is the same. Assumes nothing.
use mathlib.Core.Path.{◌≡◌, refl, ◌∙◌}
use mathlib.Core.List.{List}
use Prim.Native.Nat.{ℕ, ◌*◌, ◌≤◌, ◌<◌}
use native.Mathlib.Omega.{arith}
use lib.ListN.{length, length-set}
use Rattle.laws.specs.Parts.{pad_to}
use Rattle.laws.proofs.Parts.{pad-length, put-length}
use Rattle.table.specs.Room.{Room}
use Rattle.sparse_vec.specs.Row.{put_row}
use Rattle.model.specs.Store.{Store, lent_of}
use Rattle.model.specs.Change.{with_row, with_words, with_marks}
use Rattle.model.proofs.Rows.{Frame, row_fits}

pub record SameRoom (s u : Store) : Type 0 where
  pub slots : u.head.slots ≡ s.head.slots
  pub entries : length u.slots.entries ≡ length s.slots.entries
  pub counts : length u.slots.counts ≡ length s.slots.counts
  pub row-homes : length u.rows.homes ≡ length s.rows.homes
  pub row-logicals : length u.rows.logicals ≡ length s.rows.logicals
  pub column-homes : length u.columns.homes ≡ length s.columns.homes
  pub column-logicals : length u.columns.logicals ≡ length s.columns.logicals
  pub marks : length u.index.marks ≡ length s.index.marks
  pub starts : length u.index.starts ≡ length s.index.starts
  pub index : length u.index.entries ≡ length s.index.entries
  pub words : length u.words ≡ length s.words

pub same-room : (s : Store) → SameRoom s s
same-room s =
    record {
      slots = refl;
      entries = refl;
      counts = refl;
      row-homes = refl;
      row-logicals = refl;
      column-homes = refl;
      column-logicals = refl;
      marks = refl;
      starts = refl;
      index = refl;
      words = refl;
    }

pub room-then : (s t u : Store) → SameRoom s t → SameRoom t u → SameRoom s u
room-then s t u a b =
    record {
      slots = b.slots ∙ a.slots;
      entries = b.entries ∙ a.entries;
      counts = b.counts ∙ a.counts;
      row-homes = b.row-homes ∙ a.row-homes;
      row-logicals = b.row-logicals ∙ a.row-logicals;
      column-homes = b.column-homes ∙ a.column-homes;
      column-logicals = b.column-logicals ∙ a.column-logicals;
      marks = b.marks ∙ a.marks;
      starts = b.starts ∙ a.starts;
      index = b.index ∙ a.index;
      words = b.words ∙ a.words;
    }

-- the room that the table is held in, for the slots k that hold from now on
pub room-is : (s u : Store) (a b : List ℕ) → SameRoom s u → length b ≡ length a
    → ◌≡◌ {A = Room} (record { lent = lent_of (record { store = u; answers = b }); slots = u.head.slots }) (record { lent = lent_of (record { store = s; answers = a }); slots = s.head.slots })
room-is s u a b e l i =
    record {
      lent =
          record {
            slot_entries = e.entries i;
            row_counts = e.counts i;
            row_homes = e.row-homes i;
            row_logicals = e.row-logicals i;
            column_homes = e.column-homes i;
            column_logicals = e.column-logicals i;
            marks = e.marks i;
            starts = e.starts i;
            entries = e.index i;
            words = e.words i;
            answers = l i;
          };
      slots = e.slots i;
    }

pub with_row-room : (s : Store) (e : ℕ) → Frame s e → (y : ℕ) → y < s.head.h → (l : List ℕ) → length l ≤ s.head.slots → SameRoom s (with_row s y l)
unfolding put_row
with_row-room s e v y hy l short =
    record {
      slots = refl;
      entries = put-length s.slots.entries (y * s.head.slots) (pad_to s.head.slots l) (omega (arith, pad-length s.head.slots l short, row_fits s e v y hy));
      counts = length-set s.slots.counts y (length l);
      row-homes = refl;
      row-logicals = refl;
      column-homes = refl;
      column-logicals = refl;
      marks = refl;
      starts = refl;
      index = refl;
      words = refl;
    }

pub with_words-room : (s : Store) (ws : List ℕ) → length ws ≡ length s.words → SameRoom s (with_words s ws)
with_words-room s ws e =
    record {
      slots = refl;
      entries = refl;
      counts = refl;
      row-homes = refl;
      row-logicals = refl;
      column-homes = refl;
      column-logicals = refl;
      marks = refl;
      starts = refl;
      index = refl;
      words = e;
    }

pub with_marks-room : (s : Store) (ms : List ℕ) → length ms ≡ length s.index.marks → SameRoom s (with_marks s ms)
with_marks-room s ms e =
    record {
      slots = refl;
      entries = refl;
      counts = refl;
      row-homes = refl;
      row-logicals = refl;
      column-homes = refl;
      column-logicals = refl;
      marks = e;
      starts = refl;
      index = refl;
      words = refl;
    }
