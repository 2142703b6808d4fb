-- The store that a change of a kind leaves: the slices that it does not write as they were lent, and what stands where it writes, which is known of a slice that is still the lent one. Assumes nothing.
use mathlib.Core.Path.{◌≡◌, sym}
use mathlib.Core.List.{List}
use Prim.Native.Nat.{ℕ}
use Rattle.store_head.specs.declared.store.StoreMut.{StoreMut}
use Rattle.store_head.specs.Lent.{lent, store_of, SameSlices}
use Rattle.store_head.specs.declared.writing.CellsMut.{CellsMut}
use Rattle.store_head.specs.declared.writing.SumMut.{SumMut}
use Rattle.store_head.specs.declared.writing.RowMapsMut.{RowMapsMut}
use Rattle.store_head.specs.declared.writing.ColumnMapsMut.{ColumnMapsMut}
use Rattle.store_head.specs.declared.writing.IndexMut.{IndexMut}
use Rattle.store_head.specs.declared.writing.ShapeMut.{ShapeMut}
use Rattle.store_head.specs.Writing.{cells, SameCells, sums, SameSum, row_maps, SameRowMaps, column_maps, SameColumnMaps, index, SameIndex, shape, SameShape}

pub cells-left : (s t : CellsMut) → SameCells s t → (a b c : List ℕ) → (s.slots.ghost_name ≡ t.slots.ghost_name → a ≡ t.slots.now) → (s.counts.ghost_name ≡ t.counts.ghost_name → b ≡ t.counts.now) → (s.words.ghost_name ≡ t.words.ghost_name → c ≡ t.words.now)
    → cells t ≡ store_of t.head a b s.row_homes.now s.row_logicals.now s.column_homes.now s.column_logicals.now s.marks.now s.starts.now s.entries.now c
cells-left s t q a b c aa bb cc i =
    store_of t.head (sym (aa q.slots) i) (sym (bb q.counts) i) (sym q.row_homes i) (sym q.row_logicals i) (sym q.column_homes i) (sym q.column_logicals i) (sym q.marks i) (sym q.starts i) (sym q.entries i) (sym (cc q.words) i)

pub sums-left : (s t : SumMut) → SameSum s t → (a b c d : List ℕ) → (s.slots.ghost_name ≡ t.slots.ghost_name → a ≡ t.slots.now) → (s.counts.ghost_name ≡ t.counts.ghost_name → b ≡ t.counts.now) → (s.marks.ghost_name ≡ t.marks.ghost_name → c ≡ t.marks.now) → (s.words.ghost_name ≡ t.words.ghost_name → d ≡ t.words.now)
    → sums t ≡ store_of t.head a b s.row_homes.now s.row_logicals.now s.column_homes.now s.column_logicals.now c s.starts.now s.entries.now d
sums-left s t q a b c d aa bb cc dd i =
    store_of t.head (sym (aa q.slots) i) (sym (bb q.counts) i) (sym q.row_homes i) (sym q.row_logicals i) (sym q.column_homes i) (sym q.column_logicals i) (sym (cc q.marks) i) (sym q.starts i) (sym q.entries i) (sym (dd q.words) i)

pub row_maps-left : (s t : RowMapsMut) → SameRowMaps s t → (a b : List ℕ) → (s.row_homes.ghost_name ≡ t.row_homes.ghost_name → a ≡ t.row_homes.now) → (s.row_logicals.ghost_name ≡ t.row_logicals.ghost_name → b ≡ t.row_logicals.now)
    → row_maps t ≡ store_of t.head s.slots.now s.counts.now a b s.column_homes.now s.column_logicals.now s.marks.now s.starts.now s.entries.now s.words.now
row_maps-left s t q a b aa bb i =
    store_of t.head (sym q.slots i) (sym q.counts i) (sym (aa q.row_homes) i) (sym (bb q.row_logicals) i) (sym q.column_homes i) (sym q.column_logicals i) (sym q.marks i) (sym q.starts i) (sym q.entries i) (sym q.words i)

pub column_maps-left : (s t : ColumnMapsMut) → SameColumnMaps s t → (a b : List ℕ) → (s.column_homes.ghost_name ≡ t.column_homes.ghost_name → a ≡ t.column_homes.now) → (s.column_logicals.ghost_name ≡ t.column_logicals.ghost_name → b ≡ t.column_logicals.now)
    → column_maps t ≡ store_of t.head s.slots.now s.counts.now s.row_homes.now s.row_logicals.now a b s.marks.now s.starts.now s.entries.now s.words.now
column_maps-left s t q a b aa bb i =
    store_of t.head (sym q.slots i) (sym q.counts i) (sym q.row_homes i) (sym q.row_logicals i) (sym (aa q.column_homes) i) (sym (bb q.column_logicals) i) (sym q.marks i) (sym q.starts i) (sym q.entries i) (sym q.words i)

pub index-left : (s t : IndexMut) → SameIndex s t → (a b c : List ℕ) → (s.marks.ghost_name ≡ t.marks.ghost_name → a ≡ t.marks.now) → (s.starts.ghost_name ≡ t.starts.ghost_name → b ≡ t.starts.now) → (s.entries.ghost_name ≡ t.entries.ghost_name → c ≡ t.entries.now)
    → index t ≡ store_of t.head s.slots.now s.counts.now s.row_homes.now s.row_logicals.now s.column_homes.now s.column_logicals.now a b c s.words.now
index-left s t q a b c aa bb cc i =
    store_of t.head (sym q.slots i) (sym q.counts i) (sym q.row_homes i) (sym q.row_logicals i) (sym q.column_homes i) (sym q.column_logicals i) (sym (aa q.marks) i) (sym (bb q.starts) i) (sym (cc q.entries) i) (sym q.words i)

pub shape-left : (s t : ShapeMut) → SameShape s t → (a b c d e : List ℕ) → (s.slots.ghost_name ≡ t.slots.ghost_name → a ≡ t.slots.now) → (s.counts.ghost_name ≡ t.counts.ghost_name → b ≡ t.counts.now) → (s.row_homes.ghost_name ≡ t.row_homes.ghost_name → c ≡ t.row_homes.now) → (s.row_logicals.ghost_name ≡ t.row_logicals.ghost_name → d ≡ t.row_logicals.now) → (s.words.ghost_name ≡ t.words.ghost_name → e ≡ t.words.now)
    → shape t ≡ store_of t.head a b c d s.column_homes.now s.column_logicals.now s.marks.now s.starts.now s.entries.now e
shape-left s t q a b c d e aa bb cc dd ee i =
    store_of t.head (sym (aa q.slots) i) (sym (bb q.counts) i) (sym (cc q.row_homes) i) (sym (dd q.row_logicals) i) (sym q.column_homes i) (sym q.column_logicals i) (sym q.marks i) (sym q.starts i) (sym q.entries i) (sym (ee q.words) i)

pub lent-left : (s t : StoreMut) → SameSlices s t → (a b c d e f g h j k : List ℕ) → (s.slots.ghost_name ≡ t.slots.ghost_name → a ≡ t.slots.now) → (s.counts.ghost_name ≡ t.counts.ghost_name → b ≡ t.counts.now) → (s.row_homes.ghost_name ≡ t.row_homes.ghost_name → c ≡ t.row_homes.now) → (s.row_logicals.ghost_name ≡ t.row_logicals.ghost_name → d ≡ t.row_logicals.now) → (s.column_homes.ghost_name ≡ t.column_homes.ghost_name → e ≡ t.column_homes.now) → (s.column_logicals.ghost_name ≡ t.column_logicals.ghost_name → f ≡ t.column_logicals.now) → (s.marks.ghost_name ≡ t.marks.ghost_name → g ≡ t.marks.now) → (s.starts.ghost_name ≡ t.starts.ghost_name → h ≡ t.starts.now) → (s.entries.ghost_name ≡ t.entries.ghost_name → j ≡ t.entries.now) → (s.words.ghost_name ≡ t.words.ghost_name → k ≡ t.words.now)
    → lent t ≡ store_of t.head a b c d e f g h j k
lent-left s t q a b c d e f g h j k aa bb cc dd ee ff gg hh jj kk i =
    store_of t.head (sym (aa q.slots) i) (sym (bb q.counts) i) (sym (cc q.row_homes) i) (sym (dd q.row_logicals) i) (sym (ee q.column_homes) i) (sym (ff q.column_logicals) i) (sym (gg q.marks) i) (sym (hh q.starts) i) (sym (jj q.entries) i) (sym (kk q.words) i)
