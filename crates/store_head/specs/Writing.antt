-- What each kind of change is lent, as the model's store; and that a call gives back the slices that it was lent, the others untouched. Assumes nothing.
use Rattle.std.specs.Prelude.{◌≡◌}
use Rattle.model.specs.Store as model
use Rattle.store_head.specs.Lent.{store_of}
use Rattle.store_head.specs.declared.writing.CellsMut.{CellsMut}
use Rattle.store_head.specs.declared.writing.SumMut.{SumMut}
use Rattle.store_head.specs.declared.writing.RowMapsMut.{RowMapsMut}
use Rattle.store_head.specs.declared.writing.ColumnMapsMut.{ColumnMapsMut}
use Rattle.store_head.specs.declared.writing.IndexMut.{IndexMut}
use Rattle.store_head.specs.declared.writing.ShapeMut.{ShapeMut}

-- SET and FREEZE write lists, counts and words.
abbrev pub cells : CellsMut → model.Store
cells s = store_of s.head s.slots.now s.counts.now s.row_homes.now s.row_logicals.now s.column_homes.now s.column_logicals.now s.marks.now s.starts.now s.entries.now s.words.now

pub record SameCells (s t : CellsMut) : Type 0 where
  pub slots : s.slots.ghost_name ≡ t.slots.ghost_name
  pub counts : s.counts.ghost_name ≡ t.counts.ghost_name
  pub row_homes : s.row_homes.now ≡ t.row_homes.now
  pub row_logicals : s.row_logicals.now ≡ t.row_logicals.now
  pub column_homes : s.column_homes.now ≡ t.column_homes.now
  pub column_logicals : s.column_logicals.now ≡ t.column_logicals.now
  pub marks : s.marks.now ≡ t.marks.now
  pub starts : s.starts.now ≡ t.starts.now
  pub entries : s.entries.now ≡ t.entries.now
  pub words : s.words.ghost_name ≡ t.words.ghost_name

-- ADD writes lists, counts, words and the marks of the index.
abbrev pub sums : SumMut → model.Store
sums s = store_of s.head s.slots.now s.counts.now s.row_homes.now s.row_logicals.now s.column_homes.now s.column_logicals.now s.marks.now s.starts.now s.entries.now s.words.now

pub record SameSum (s t : SumMut) : Type 0 where
  pub slots : s.slots.ghost_name ≡ t.slots.ghost_name
  pub counts : s.counts.ghost_name ≡ t.counts.ghost_name
  pub row_homes : s.row_homes.now ≡ t.row_homes.now
  pub row_logicals : s.row_logicals.now ≡ t.row_logicals.now
  pub column_homes : s.column_homes.now ≡ t.column_homes.now
  pub column_logicals : s.column_logicals.now ≡ t.column_logicals.now
  pub marks : s.marks.ghost_name ≡ t.marks.ghost_name
  pub starts : s.starts.now ≡ t.starts.now
  pub entries : s.entries.now ≡ t.entries.now
  pub words : s.words.ghost_name ≡ t.words.ghost_name

-- SWAPR writes the rows' maps.
abbrev pub row_maps : RowMapsMut → model.Store
row_maps s = store_of s.head s.slots.now s.counts.now s.row_homes.now s.row_logicals.now s.column_homes.now s.column_logicals.now s.marks.now s.starts.now s.entries.now s.words.now

pub record SameRowMaps (s t : RowMapsMut) : Type 0 where
  pub slots : s.slots.now ≡ t.slots.now
  pub counts : s.counts.now ≡ t.counts.now
  pub row_homes : s.row_homes.ghost_name ≡ t.row_homes.ghost_name
  pub row_logicals : s.row_logicals.ghost_name ≡ t.row_logicals.ghost_name
  pub column_homes : s.column_homes.now ≡ t.column_homes.now
  pub column_logicals : s.column_logicals.now ≡ t.column_logicals.now
  pub marks : s.marks.now ≡ t.marks.now
  pub starts : s.starts.now ≡ t.starts.now
  pub entries : s.entries.now ≡ t.entries.now
  pub words : s.words.now ≡ t.words.now

-- SWAPC writes the columns' maps.
abbrev pub column_maps : ColumnMapsMut → model.Store
column_maps s = store_of s.head s.slots.now s.counts.now s.row_homes.now s.row_logicals.now s.column_homes.now s.column_logicals.now s.marks.now s.starts.now s.entries.now s.words.now

pub record SameColumnMaps (s t : ColumnMapsMut) : Type 0 where
  pub slots : s.slots.now ≡ t.slots.now
  pub counts : s.counts.now ≡ t.counts.now
  pub row_homes : s.row_homes.now ≡ t.row_homes.now
  pub row_logicals : s.row_logicals.now ≡ t.row_logicals.now
  pub column_homes : s.column_homes.ghost_name ≡ t.column_homes.ghost_name
  pub column_logicals : s.column_logicals.ghost_name ≡ t.column_logicals.ghost_name
  pub marks : s.marks.now ≡ t.marks.now
  pub starts : s.starts.now ≡ t.starts.now
  pub entries : s.entries.now ≡ t.entries.now
  pub words : s.words.now ≡ t.words.now

-- ON and OFF write the index.
abbrev pub index : IndexMut → model.Store
index s = store_of s.head s.slots.now s.counts.now s.row_homes.now s.row_logicals.now s.column_homes.now s.column_logicals.now s.marks.now s.starts.now s.entries.now s.words.now

pub record SameIndex (s t : IndexMut) : Type 0 where
  pub slots : s.slots.now ≡ t.slots.now
  pub counts : s.counts.now ≡ t.counts.now
  pub row_homes : s.row_homes.now ≡ t.row_homes.now
  pub row_logicals : s.row_logicals.now ≡ t.row_logicals.now
  pub column_homes : s.column_homes.now ≡ t.column_homes.now
  pub column_logicals : s.column_logicals.now ≡ t.column_logicals.now
  pub marks : s.marks.ghost_name ≡ t.marks.ghost_name
  pub starts : s.starts.ghost_name ≡ t.starts.ghost_name
  pub entries : s.entries.ghost_name ≡ t.entries.ghost_name
  pub words : s.words.now ≡ t.words.now

-- RESIZE writes lists, counts, words and the rows' maps.
abbrev pub shape : ShapeMut → model.Store
shape s = store_of s.head s.slots.now s.counts.now s.row_homes.now s.row_logicals.now s.column_homes.now s.column_logicals.now s.marks.now s.starts.now s.entries.now s.words.now

pub record SameShape (s t : ShapeMut) : Type 0 where
  pub slots : s.slots.ghost_name ≡ t.slots.ghost_name
  pub counts : s.counts.ghost_name ≡ t.counts.ghost_name
  pub row_homes : s.row_homes.ghost_name ≡ t.row_homes.ghost_name
  pub row_logicals : s.row_logicals.ghost_name ≡ t.row_logicals.ghost_name
  pub column_homes : s.column_homes.now ≡ t.column_homes.now
  pub column_logicals : s.column_logicals.now ≡ t.column_logicals.now
  pub marks : s.marks.now ≡ t.marks.now
  pub starts : s.starts.now ≡ t.starts.now
  pub entries : s.entries.now ≡ t.entries.now
  pub words : s.words.ghost_name ≡ t.words.ghost_name
