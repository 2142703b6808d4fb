-- What each accepted operation does to the lists of a store. Assumes nothing.
use Rattle.std.specs.Prelude.{Bool, true, false, not, List, [], ◌∷◌, ℕ, zero, suc, ◌-◌, ◌*◌, ltb, eqb, length, set}
use Rattle.laws.specs.Plain.{pick}
use Rattle.laws.specs.Rows.{member, xor_merge, put_in, take_out}
use Rattle.laws.specs.Parts.{zeros, part, put_at}
use Rattle.laws.specs.Words.{words_for}
use Rattle.sparse_vec.specs.Row.{put_row, kept_below}
use Rattle.tail.specs.Tail.{tail_put, xored, grown}
use Rattle.permutation.specs.Maps.{swapped, turned, identity}
use Rattle.arraymap.specs.Index.{starts_of, entries_of, list_at}
use Rattle.table.specs.declared.Sizes.{Sizes}
use Rattle.table.specs.declared.SetCell.{SetCell}
use Rattle.table.specs.declared.Two.{Two}
use Rattle.table.specs.declared.Addition.{Addition}
use Rattle.table.specs.declared.Shape.{Shape}
use Rattle.model.specs.Store.{Index, Store, edge, row, home_row, home_column}

-- ---- parts of a store replaced

-- home row y holds the list l, and zeros after it
abbrev pub with_row : Store → ℕ → List ℕ → Store
with_row s y l =
    record {
      head = s.head;
      slots = record { entries = put_row s.slots.entries (y * s.head.slots) s.head.slots l; counts = set s.slots.counts y (length l) };
      rows = s.rows;
      columns = s.columns;
      index = s.index;
      words = s.words;
    }

abbrev pub with_words : Store → List ℕ → Store
with_words s ws = record { head = s.head; slots = s.slots; rows = s.rows; columns = s.columns; index = s.index; words = ws }

abbrev pub with_marks : Store → List ℕ → Store
with_marks s ms =
    record {
      head = s.head;
      slots = s.slots;
      rows = s.rows;
      columns = s.columns;
      index = record { starts = s.index.starts; entries = s.index.entries; marks = ms };
      words = s.words;
    }

-- ---- MAKE: every lent store buffer cleared to its end, the maps set
abbrev pub made : Sizes → Store → Store
made p s =
    record {
      head = record { h = p.h; w = p.w; n = p.n; slots = p.slots; made = p.w; on = false };
      slots = record { entries = zeros (length s.slots.entries); counts = zeros (length s.slots.counts) };
      rows = record { homes = identity (length s.rows.homes) p.h; logicals = identity (length s.rows.logicals) p.h };
      columns = record { homes = identity (length s.columns.homes) p.w; logicals = identity (length s.columns.logicals) p.w };
      index =
          record {
            starts = zeros (length s.index.starts);
            entries = zeros (length s.index.entries);
            marks = zeros (length s.index.marks);
          };
      words = zeros (length s.words);
    }

-- ---- SET: in the row's list, or in the tail
abbrev pub set_row : Bool → ℕ → List ℕ → List ℕ
set_row v z l = pick v (put_in z l) (take_out z l)

abbrev pub set_at : Store → ℕ → ℕ → Bool → Store
set_at s y c v =
    pick (ltb c (edge s))
    (with_row s y (set_row v (home_column s c) (row s y)))
    (with_words s (tail_put s.words s.head.n y (c - edge s) v))

abbrev pub set_cell : SetCell → Store → Store
set_cell p s = set_at s (home_row s p.r) p.c (not (eqb p.v 0))

-- ---- SWAPR, SWAPC: the maps alone. Marks are kept by home column, so they go with it
abbrev pub swap_rows : Two → Store → Store
swap_rows p s =
    record {
      head = s.head;
      slots = s.slots;
      rows = record { homes = swapped s.rows.homes p.i p.j; logicals = turned s.rows.homes s.rows.logicals p.i p.j };
      columns = s.columns;
      index = s.index;
      words = s.words;
    }

abbrev pub swap_columns : Two → Store → Store
swap_columns p s =
    record {
      head = s.head;
      slots = s.slots;
      rows = s.rows;
      columns =
          record { homes = swapped s.columns.homes p.i p.j; logicals = turned s.columns.homes s.columns.logicals p.i p.j };
      index = s.index;
      words = s.words;
    }

-- ---- ADD: from start 0 the rows' lists too, and with the index on the mark of the source's one
abbrev pub add_sparse : Store → ℕ → ℕ → Store
add_sparse s y x = with_row s y (xor_merge (row s y) (row s x))

abbrev pub spend : Store → List ℕ → Store
spend s [] = s
spend s (z ∷ l) = with_marks s (set s.index.marks z 1)

abbrev pub add_tail : Store → ℕ → ℕ → Store
add_tail s y x = with_words s (xored s.words (words_for s.head.n) y x)

abbrev pub add_homes : Store → ℕ → ℕ → Bool → Store
add_homes s y x all = add_tail (pick all (add_sparse (pick s.head.on (spend s (row s x)) s) y x) s) y x

abbrev pub add_rows : Addition → Store → Store
add_rows p s = add_homes s (home_row s p.d) (home_row s p.s) (eqb p.start 0)

-- ---- ON, OFF
abbrev pub with_index : Store → Bool → Index → Store
with_index s b ix =
    record {
      head = record { h = s.head.h; w = s.head.w; n = s.head.n; slots = s.head.slots; made = s.head.made; on = b };
      slots = s.slots;
      rows = s.rows;
      columns = s.columns;
      index = ix;
      words = s.words;
    }

abbrev pub index_on : Store → Store
index_on s =
    with_index s true
    (record {
      starts = starts_of (row s) s.head.h s.head.made (length s.index.starts);
      entries = entries_of (row s) s.head.h s.head.made (length s.index.entries);
      marks = zeros (length s.index.marks);
    })

abbrev pub index_off : Store → Store
index_off s =
    with_index s false
    (record {
      starts = zeros (length s.index.starts);
      entries = zeros (length s.index.entries);
      marks = zeros (length s.index.marks);
    })

-- ---- FREEZE: the tail grows by a zero column on the left; then each listed row that still has the column moves its one there
abbrev pub grown_tail : Store → Store
grown_tail s =
    record {
      head = record { h = s.head.h; w = s.head.w; n = suc s.head.n; slots = s.head.slots; made = s.head.made; on = s.head.on };
      slots = s.slots;
      rows = s.rows;
      columns = s.columns;
      index = s.index;
      words = grown s.words s.head.n s.head.h;
    }

abbrev pub freeze_row : Store → ℕ → ℕ → Store
freeze_row s z y =
    pick (member z (row s y)) (with_words (with_row s y (take_out z (row s y))) (tail_put s.words s.head.n y 0 true)) s

unfoldable pub freeze_rows : ℕ → List ℕ → Store → Store
freeze_rows z [] s = s
freeze_rows z (y ∷ ys) s = freeze_rows z ys (freeze_row s z y)

abbrev pub freeze_column : ℕ → Store → Store
freeze_column c s = freeze_rows (home_column s c) (list_at s.index.starts s.index.entries (home_column s c)) (grown_tail s)

-- ---- RESIZE: each kept row brought home, the others dropped, then columns by logical number
abbrev pub exchanged : List ℕ → ℕ → ℕ → ℕ → List ℕ
exchanged l a b n = put_at (put_at l a (part l b n)) b (part l a n)

abbrev pub swap_homes : Store → ℕ → ℕ → Store
swap_homes s y x =
    record {
      head = s.head;
      slots =
          record {
            entries = exchanged s.slots.entries (y * s.head.slots) (x * s.head.slots) s.head.slots;
            counts = swapped s.slots.counts y x;
          };
      rows = record { homes = turned s.rows.logicals s.rows.homes y x; logicals = swapped s.rows.logicals y x };
      columns = s.columns;
      index = s.index;
      words = exchanged s.words (y * words_for s.head.n) (x * words_for s.head.n) (words_for s.head.n);
    }

-- row r is brought to home r
abbrev pub bring_home : Store → ℕ → Store
bring_home s r = pick (eqb (home_row s r) r) s (swap_homes s (home_row s r) r)

-- the rows 0 to k-1 are brought home
unfoldable pub brought_home : ℕ → Store → Store
brought_home zero s = s
brought_home (suc k) s = bring_home (brought_home k s) k

-- zeros from place k to before place m
abbrev pub cleared : List ℕ → ℕ → ℕ → List ℕ
cleared l k m = put_at l k (zeros (m - k))

abbrev pub drop_rows : ℕ → Store → Store
drop_rows k s =
    record {
      head = record { h = k; w = s.head.w; n = s.head.n; slots = s.head.slots; made = s.head.made; on = s.head.on };
      slots =
          record {
            entries = cleared s.slots.entries (k * s.head.slots) (s.head.h * s.head.slots);
            counts = cleared s.slots.counts k s.head.h;
          };
      rows = record { homes = cleared s.rows.homes k s.head.h; logicals = cleared s.rows.logicals k s.head.h };
      columns = s.columns;
      index = s.index;
      words = cleared s.words (k * words_for s.head.n) (s.head.h * words_for s.head.n);
    }

-- the rows 0 to k-1 keep the columns below w
unfoldable pub kept_columns : ℕ → ℕ → Store → Store
kept_columns zero w s = s
kept_columns (suc k) w s =
    with_row (kept_columns k w s) k (kept_below s.columns.logicals w (row (kept_columns k w s) k))

abbrev pub drop_columns : ℕ → Store → Store
drop_columns w s =
    record {
      head = record { h = s.head.h; w = w; n = 0; slots = s.head.slots; made = s.head.made; on = s.head.on };
      slots = (kept_columns s.head.h w s).slots;
      rows = s.rows;
      columns = s.columns;
      index = s.index;
      words = cleared s.words 0 (s.head.h * words_for s.head.n);
    }

abbrev pub resize : Shape → Store → Store
resize p s =
    pick (eqb p.w s.head.w) (drop_rows p.h (brought_home p.h s)) (drop_columns p.w (drop_rows p.h (brought_home p.h s)))
