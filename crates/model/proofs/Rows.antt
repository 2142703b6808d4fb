-- One home row of a well-formed store replaced, or its tail words: what each row lists then, and that the rest stays. Assumes nothing.
use mathlib.Core.Path.{◌≡◌, ◌∙◌}
use mathlib.Core.Bool.{true}
use mathlib.Core.Logic.{◌⊎◌, inl, inr, ⊎_elim}
use mathlib.Core.List.{List}
use Prim.Native.Nat.{ℕ, ◌+◌, ◌*◌, ◌≤◌, ◌<◌}
use native.Mathlib.Omega.{arith}
use lib.Dec.{eqb}
use lib.ListN.{length, get_or, set, length-set}
use lib.Seq.{get_or-set_same, get_or-set_other}
use borrow.Author.Tests.{eqb-true, eqb-false}
use Rattle.laws.specs.Plain.{pick}
use Rattle.laws.specs.Rows.{member, From}
use Rattle.laws.specs.Parts.{put_at, pad_to, row_of}
use Rattle.laws.proofs.Bools.{by-test}
use Rattle.laws.proofs.Numbers.{by_order}
use Rattle.laws.proofs.Parts.{part_length, pad-length, pad-take, pad-high, put-length, put-part, put-below, put-in, put-above, part_apart, row-end}
use Rattle.laws.specs.Words.{words_for}
use Rattle.sparse_vec.specs.Row.{put_row}
use Rattle.tail.specs.Tail.{pad_clear, InRow}
use Rattle.model.specs.Store.{Store, edge, row, logical_column}
use Rattle.model.specs.WellFormed.{WellFormed, MapsOk, TailOk, Switched, Limits, Unused, Zero}
use Rattle.model.specs.Change.{with_row, with_words}

-- rows of k places lie apart
pub rows_apart : (k x y : ℕ) → (x ≡ y → ⊥) → (x * k + k ≤ y * k) ⊎ (y * k + k ≤ x * k)
rows_apart k x y ne = by_order x y (λ l. inl (row-end x y k l)) (λ e. absurd (ne e)) (λ l. inr (row-end y x k l))

-- all of well-formed but the index, with the bound e for the logical numbers in the rows: what holds also in the midst of a FREEZE
pub record Frame (s : Store) (e : ℕ) : Type 0 where
  pub maps : MapsOk s
  pub room : (y : ℕ) → y < s.head.h → get_or s.slots.counts y 0 ≤ s.head.slots
  pub rising : (y : ℕ) → y < s.head.h → From 0 (row s y)
  pub home : (y z : ℕ) → y < s.head.h → member z (row s y) ≡ true → z < s.head.made
  pub sparse : (y z : ℕ) → y < s.head.h → member z (row s y) ≡ true → logical_column s z < e
  pub tail : TailOk s
  pub limits : Limits s
  pub unused : Unused s

pub frame-of : (s : Store) → WellFormed s → Frame s (edge s)
frame-of s v =
    record {
      maps = v.maps;
      room = v.rows.room;
      rising = v.rows.rising;
      home = v.rows.home;
      sparse = v.rows.sparse;
      tail = v.tail;
      limits = v.limits;
      unused = v.unused;
    }

pub frame-ok : (s : Store) → Frame s (edge s) → Switched s → WellFormed s
frame-ok s f i =
    record {
      maps = f.maps;
      rows = record { room = f.room; rising = f.rising; home = f.home; sparse = f.sparse };
      tail = f.tail;
      index = i;
      limits = f.limits;
      unused = f.unused;
    }

module _ (s : Store) (e : ℕ) (v : Frame s e) where
  -- a row lies in the run
  pub row_fits : (y : ℕ) → y < s.head.h → y * s.head.slots + s.head.slots ≤ length s.slots.entries
  row_fits y hy = omega (arith, row-end y s.head.h s.head.slots hy, v.limits.entries)

  pub row-length : (y : ℕ) → y < s.head.h → length (row s y) ≡ get_or s.slots.counts y 0
  unfolding row_of
  row-length y hy = part_length s.slots.entries (y * s.head.slots) (get_or s.slots.counts y 0) (omega (arith, row_fits y hy, v.room y hy))

  module _ (y : ℕ) (hy : y < s.head.h) (l : List ℕ) (short : length l ≤ s.head.slots) where
    padded : length (pad_to s.head.slots l) ≡ s.head.slots
    padded = pad-length s.head.slots l short

    fits : y * s.head.slots + length (pad_to s.head.slots l) ≤ length s.slots.entries
    fits = omega (arith, padded, row_fits y hy)

    count_same : get_or (set s.slots.counts y (length l)) y 0 ≡ length l
    count_same = get_or-set_same s.slots.counts y (length l) 0 (omega (arith, v.limits.counts))

    count-other : (x : ℕ) → (x ≡ y → ⊥) → get_or (set s.slots.counts y (length l)) x 0 ≡ get_or s.slots.counts x 0
    count-other x ne = get_or-set_other s.slots.counts y x (length l) 0 ne

    row_same : row (with_row s y l) y ≡ l
    unfolding row_of put_row
    row_same =
        rw (count_same, put-part s.slots.entries (y * s.head.slots) (pad_to s.head.slots l) fits (length l) (omega (arith, padded))) (pad-take s.head.slots l)

    row_other : (x : ℕ) → x < s.head.h → (x ≡ y → ⊥) → row (with_row s y l) x ≡ row s x
    unfolding row_of put_row
    row_other x hx ne =
        rw (count-other x ne)
        (part_apart s.slots.entries (y * s.head.slots) (pad_to s.head.slots l) fits (x * s.head.slots) (get_or s.slots.counts x 0)
        (⊎_elim (λ a. inl (omega (arith, v.room x hx))) (λ a. inr (omega (arith, padded))) (rows_apart s.head.slots x y ne))
        (omega (arith, row_fits x hx, v.room x hx)))

    -- FRAME: home row y lists l, and every other row what it did
    pub row_at : (x : ℕ) → x < s.head.h → row (with_row s y l) x ≡ pick (eqb x y) l (row s x)
    row_at x hx = by-test (eqb x y)
        (λ t. rw (t, eqb-true x y t) row_same)
        (λ n. rw n (row_other x hx (eqb-false x y n)))

    count_at : (x : ℕ) → get_or (set s.slots.counts y (length l)) x 0 ≡ pick (eqb x y) (length l) (get_or s.slots.counts x 0)
    count_at x = by-test (eqb x y) (λ t. rw (t, eqb-true x y t) count_same) (λ n. rw n (count-other x (eqb-false x y n)))

    -- a right row keeps the frame
    pub with_row-frame : From 0 l → ((z : ℕ) → member z l ≡ true → z < s.head.made) → ((z : ℕ) → member z l ≡ true → logical_column s z < e)
        → Frame (with_row s y l) e
    unfolding put_row
    with_row-frame rises home sparse =
        record {
          maps = record { rows = v.maps.rows; columns = v.maps.columns; wide = v.maps.wide };
          room = λ x hx. rw (count_at x) (by-test (eqb x y) (λ t. rw t short) (λ n. rw n (v.room x hx)));
          rising = λ x hx. rw (row_at x hx) (by-test (eqb x y) (λ t. rw t rises) (λ n. rw n (v.rising x hx)));
          home = λ x z hx m. by-test (eqb x y) (λ t. home z (rw (row_at x hx, t) at m)) (λ n. v.home x z hx (rw (row_at x hx, n) at m));
          sparse = λ x z hx m. by-test (eqb x y) (λ t. sparse z (rw (row_at x hx, t) at m)) (λ n. v.sparse x z hx (rw (row_at x hx, n) at m));
          tail = record { padding = v.tail.padding };
          limits =
              record {
                height = v.limits.height;
                width = v.limits.width;
                tail = v.limits.tail;
                slots = v.limits.slots;
                entries = rw (put-length s.slots.entries (y * s.head.slots) (pad_to s.head.slots l) fits) v.limits.entries;
                counts = simp length-set v.limits.counts;
                marks = v.limits.marks;
                starts = v.limits.starts;
                words = v.limits.words;
              };
          unused =
              record {
                slots = λ x k hx low high. by-test (eqb x y)
                    (λ t. let same : x ≡ y = eqb-true x y t in
                    rw same (put-in s.slots.entries (y * s.head.slots) (pad_to s.head.slots l) fits k (omega (arith, padded))
                    ∙ pad-high s.head.slots l k (rw (count_at x, t) at low)))
                    (λ n. let ne : x ≡ y → ⊥ = eqb-false x y n in
                    apart x k ne high ∙ v.unused.slots x k hx (rw (count_at x, n) at low) high);
                entries = λ i hi. put-above s.slots.entries (y * s.head.slots) (pad_to s.head.slots l) fits i (omega (arith, padded, row-end y s.head.h s.head.slots hy)) ∙ v.unused.entries i hi;
                counts = λ i hi. count-other i (λ e. omega arith) ∙ v.unused.counts i hi;
                row-homes = v.unused.row-homes;
                row-logicals = v.unused.row-logicals;
                column-homes = v.unused.column-homes;
                column-logicals = v.unused.column-logicals;
                words = v.unused.words;
              };
        }
      where
        apart : (x k : ℕ) → (x ≡ y → ⊥) → k < s.head.slots
            → get_or (put_at s.slots.entries (y * s.head.slots) (pad_to s.head.slots l)) (x * s.head.slots + k) 0 ≡ get_or s.slots.entries (x * s.head.slots + k) 0
        apart x k ne high = ⊎_elim
            (λ a. put-below s.slots.entries (y * s.head.slots) (pad_to s.head.slots l) fits (x * s.head.slots + k) (omega arith))
            (λ a. put-above s.slots.entries (y * s.head.slots) (pad_to s.head.slots l) fits (x * s.head.slots + k) (omega (arith, padded)))
            (rows_apart s.head.slots x y ne)

-- a right row keeps a store well-formed, where it leaves the index right
pub with_row-ok : (s : Store) → WellFormed s → (y : ℕ) → y < s.head.h → (l : List ℕ) → length l ≤ s.head.slots → From 0 l
    → ((z : ℕ) → member z l ≡ true → z < s.head.made) → ((z : ℕ) → member z l ≡ true → logical_column s z < edge s)
    → Switched (with_row s y l) → WellFormed (with_row s y l)
with_row-ok s v y hy l short rises home sparse switched =
    frame-ok (with_row s y l) (with_row-frame s (edge s) (frame-of s v) y hy l short rises home sparse) switched

-- the tail words of a frame replaced by others as long, with clear padding and zeros after them
pub with_words-frame : (s : Store) (e : ℕ) → Frame s e → (ws : List ℕ) → length ws ≡ length s.words
    → ((y : ℕ) → y < s.head.h → pad_clear ws s.head.n y ≡ true) → Zero ws (s.head.h * words_for s.head.n) → Frame (with_words s ws) e
with_words-frame s e v ws long pads rest =
    record {
      maps = record { rows = v.maps.rows; columns = v.maps.columns; wide = v.maps.wide };
      room = v.room;
      rising = v.rising;
      home = v.home;
      sparse = v.sparse;
      tail = record { padding = pads };
      limits =
          record {
            height = v.limits.height;
            width = v.limits.width;
            tail = v.limits.tail;
            slots = v.limits.slots;
            entries = v.limits.entries;
            counts = v.limits.counts;
            marks = v.limits.marks;
            starts = v.limits.starts;
            words = rw long v.limits.words;
          };
      unused =
          record {
            slots = v.unused.slots;
            entries = v.unused.entries;
            counts = v.unused.counts;
            row-homes = v.unused.row-homes;
            row-logicals = v.unused.row-logicals;
            column-homes = v.unused.column-homes;
            column-logicals = v.unused.column-logicals;
            words = rest;
          };
    }

-- home row y of a frame has its words
pub frame-words : (s : Store) (e : ℕ) → Frame s e → (y : ℕ) → y < s.head.h → InRow s.words (words_for s.head.n) y
frame-words s e v y hy = record { fits = omega (arith, row-end y s.head.h (words_for s.head.n) hy, v.limits.words) }

-- words that are right keep a store well-formed
pub with_words-ok : (s : Store) → WellFormed s → (ws : List ℕ) → length ws ≡ length s.words
    → ((y : ℕ) → y < s.head.h → pad_clear ws s.head.n y ≡ true) → Zero ws (s.head.h * words_for s.head.n) → WellFormed (with_words s ws)
with_words-ok s v ws long pads rest =
    frame-ok (with_words s ws) (with_words-frame s (edge s) (frame-of s v) ws long pads rest)
    (record { on = v.index.on; off-starts = v.index.off-starts; off-entries = v.index.off-entries; off-marks = v.index.off-marks })

pub words-fit : (s : Store) → WellFormed s → (y : ℕ) → y < s.head.h → InRow s.words (words_for s.head.n) y
words-fit s v y hy = frame-words s (edge s) (frame-of s v) y hy
