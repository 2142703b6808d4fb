-- The head and the lent slices as the model's store. Assumes nothing.
use Rattle.std.specs.Prelude.{◌≡◌, List, [], ℕ}
use Rattle.model.specs.Store as model
use Rattle.store_head.specs.declared.Numbers.{Numbers}
use Rattle.store_head.specs.declared.store.Store.{Store}
use Rattle.store_head.specs.declared.store.StoreMut.{StoreMut}

-- the head's numbers
abbrev pub head_of : Numbers → model.Head
head_of d = record { h = d.h; w = d.w; n = d.n; slots = d.slots; made = d.made; on = d.on }

-- the head and the ten lent slices, in the order in which every function takes them
abbrev pub store_of : Numbers → (slots counts row_homes row_logicals column_homes column_logicals marks starts entries words : List ℕ) → model.Store
store_of d slots counts row_homes row_logicals column_homes column_logicals marks starts entries words =
    record {
      head = head_of d;
      slots = record { entries = slots; counts = counts };
      rows = record { homes = row_homes; logicals = row_logicals };
      columns = record { homes = column_homes; logicals = column_logicals };
      index = record { starts = starts; entries = entries; marks = marks };
      words = words;
    }

-- a store lent to be asked
abbrev pub seen : Store → model.Store
seen s =
    store_of s.head s.slots.now s.counts.now s.row_homes.now s.row_logicals.now s.column_homes.now s.column_logicals.now s.marks.now s.starts.now s.entries.now s.words.now

-- a store lent to be changed, as it stands at a moment
abbrev pub lent : StoreMut → model.Store
lent s =
    store_of s.head s.slots.now s.counts.now s.row_homes.now s.row_logicals.now s.column_homes.now s.column_logicals.now s.marks.now s.starts.now s.entries.now s.words.now

-- the ten slices are still those that the caller lent
pub record SameSlices (s t : StoreMut) : Type 0 where
  pub slots : s.slots.ghost_name ≡ t.slots.ghost_name
  pub counts : s.counts.ghost_name ≡ t.counts.ghost_name
  pub row_homes : s.row_homes.ghost_name ≡ t.row_homes.ghost_name
  pub row_logicals : s.row_logicals.ghost_name ≡ t.row_logicals.ghost_name
  pub column_homes : s.column_homes.ghost_name ≡ t.column_homes.ghost_name
  pub column_logicals : s.column_logicals.ghost_name ≡ t.column_logicals.ghost_name
  pub marks : s.marks.ghost_name ≡ t.marks.ghost_name
  pub starts : s.starts.ghost_name ≡ t.starts.ghost_name
  pub entries : s.entries.ghost_name ≡ t.entries.ghost_name
  pub words : s.words.ghost_name ≡ t.words.ghost_name

abbrev pub full_of : model.Store → List ℕ → model.Full
full_of s answers = record { store = s; answers = answers }

-- a head over no numbers at all, for what looks at the head alone
abbrev pub bare_of : Numbers → model.Store
bare_of d = store_of d [] [] [] [] [] [] [] [] [] []
