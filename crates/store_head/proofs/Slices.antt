-- The ten lent slices as one, and a store read back into them and the head's numbers. Assumes nothing.
use mathlib.Core.Path.{◌≡◌}
use mathlib.Core.List.{List}
use Prim.Native.Nat.{ℕ}
use Rattle.model.specs.Store as model
use Rattle.store_head.specs.declared.Numbers.{Numbers}
use Rattle.store_head.specs.Lent.{head_of, store_of}

-- the ten lent slices as a call leaves them
pub record Slices : Type 0 where
  pub slots : List ℕ
  pub counts : List ℕ
  pub row-homes : List ℕ
  pub row-logicals : List ℕ
  pub column-homes : List ℕ
  pub column-logicals : List ℕ
  pub marks : List ℕ
  pub starts : List ℕ
  pub entries : List ℕ
  pub words : List ℕ

abbrev pub over : Slices → Numbers → model.Store
over l d = store_of d l.slots l.counts l.row-homes l.row-logicals l.column-homes l.column-logicals l.marks l.starts l.entries l.words

-- a store's lists read back
unfoldable pub lists : model.Store → Slices
lists s =
    record {
      slots = s.slots.entries;
      counts = s.slots.counts;
      row-homes = s.rows.homes;
      row-logicals = s.rows.logicals;
      column-homes = s.columns.homes;
      column-logicals = s.columns.logicals;
      marks = s.index.marks;
      starts = s.index.starts;
      entries = s.index.entries;
      words = s.words;
    }

pub same_head : (d e : Numbers) → head_of d ≡ head_of e → d ≡ e
same_head d e p i = record { h = (p i).h; w = (p i).w; n = (p i).n; slots = (p i).slots; made = (p i).made; on = (p i).on }
