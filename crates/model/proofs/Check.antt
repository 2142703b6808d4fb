-- THE STORE CHECK IS SOUND AND COMPLETE: the test passes exactly on well-formed stores. Assumes nothing.
use mathlib.Core.Path.{◌≡◌, sym, ◌∙◌}
use mathlib.Core.Bool.{Bool, true, ◌&&◌}
use Prim.Native.Nat.{ℕ, suc, ◌+◌, ◌*◌, ◌≤◌, ◌<◌}
use native.Mathlib.Omega.{arith}
use lib.Dec.{leb, ltb}
use lib.ListN.{length, get_or, take, get_or-eq_default}
use lib.Seq.{get_or-take, length-take-le}
use borrow.Author.Tests.{leb-true, le-leb, ltb-true, ltb-false}
use Rattle.laws.specs.Plain.{pick}
use Rattle.laws.specs.Rows.{member}
use Rattle.laws.specs.Parts.{part}
use Rattle.laws.specs.Tests.{all_below, zero_from}
use Rattle.laws.specs.Words.{words_for}
use Rattle.laws.proofs.Bools.{by-test, and_first, and_second}
use Rattle.laws.proofs.Passes.{all-at, all_of, zero-sound, zero-complete}
use Rattle.laws.proofs.Parts.{part_at, part_length, row-end}
use Rattle.permutation.proofs.Inverse.{inverse-sound, inverse-complete}
use Rattle.permutation.specs.Maps.{inverse_test}
use Rattle.sparse_vec.specs.Row.{row_test}
use Rattle.sparse_vec.proofs.Keeping.{test-sound, test-complete}
use Rattle.tail.specs.Tail.{pad_clear}
use Rattle.arraymap.proofs.Verdict.{index-sound, index-complete}
use Rattle.table.specs.Step.{height_limit, width_limit, slot_limit}
use Rattle.model.specs.Store.{Head, Store, edge, row, logical_column}
use Rattle.model.specs.WellFormed.{WellFormed, MapsOk, RowsOk, Switched, Limits, Unused}
use Rattle.model.specs.Check.{head_test, length_test, maps_test, row_at, unused_test, off_test, on_test, well_formed}

-- ---- the parts of a passed test, by name
record Parts (s : Store) : Type 0 where
  head : head_test s.head ≡ true
  long : length_test s ≡ true
  maps : maps_test s ≡ true
  unused : unused_test s ≡ true
  rows : all_below s.head.h (row_at s) ≡ true
  tail : all_below s.head.h (pad_clear s.words s.head.n) ≡ true
  index : pick s.head.on (on_test s) (off_test s) ≡ true

parts : (s : Store) → well_formed s ≡ true → Parts s
unfolding well_formed
parts s e =
    let g : Bool = pick s.head.on (on_test s) (off_test s) in
    let f : Bool = all_below s.head.h (pad_clear s.words s.head.n) in
    let d : Bool = all_below s.head.h (row_at s) in
    let e1 = and_second (head_test s.head) (length_test s && (maps_test s && (unused_test s && (d && (f && g))))) e in
    let e2 = and_second (length_test s) (maps_test s && (unused_test s && (d && (f && g)))) e1 in
    let e3 = and_second (maps_test s) (unused_test s && (d && (f && g))) e2 in
    let e4 = and_second (unused_test s) (d && (f && g)) e3 in
    let e5 = and_second d (f && g) e4 in
    record {
      head = and_first (head_test s.head) (length_test s && (maps_test s && (unused_test s && (d && (f && g))))) e;
      long = and_first (length_test s) (maps_test s && (unused_test s && (d && (f && g)))) e1;
      maps = and_first (maps_test s) (unused_test s && (d && (f && g))) e2;
      unused = and_first (unused_test s) (d && (f && g)) e3;
      rows = and_first d (f && g) e4;
      tail = and_first f g e5;
      index = and_second f g e5;
    }

-- ---- the head and the lengths
record HeadOk (d : Head) : Type 0 where
  height : d.h ≤ height_limit
  width : d.made ≤ width_limit
  wide : d.w ≤ d.made
  tail : d.n ≤ d.w
  slots : d.slots ≤ slot_limit

head-sound : (d : Head) → head_test d ≡ true → HeadOk d
unfolding head_test
head-sound d e =
    let a = leb d.h height_limit in
    let b = leb d.made width_limit in
    let c = leb d.w d.made in
    let f = leb d.n d.w in
    let g = leb d.slots slot_limit in
    let e1 = and_second a (b && (c && (f && g))) e in
    let e2 = and_second b (c && (f && g)) e1 in
    let e3 = and_second c (f && g) e2 in
    record {
      height = leb-true d.h height_limit (and_first a (b && (c && (f && g))) e);
      width = leb-true d.made width_limit (and_first b (c && (f && g)) e1);
      wide = leb-true d.w d.made (and_first c (f && g) e2);
      tail = leb-true d.n d.w (and_first f g e3);
      slots = leb-true d.slots slot_limit (and_second f g e3);
    }

limits-sound : (s : Store) → head_test s.head ≡ true → length_test s ≡ true → Limits s
unfolding length_test
limits-sound s e l =
    let h = head-sound s.head e in
    let a = leb (s.head.h * s.head.slots) (length s.slots.entries) in
    let b = leb s.head.h (length s.slots.counts) in
    let c = leb s.head.made (length s.index.marks) in
    let f = leb (suc s.head.made) (length s.index.starts) in
    let g = leb (s.head.h * words_for s.head.n) (length s.words) in
    let l1 = and_second a (b && (c && (f && g))) l in
    let l2 = and_second b (c && (f && g)) l1 in
    let l3 = and_second c (f && g) l2 in
    record {
      height = h.height;
      width = h.width;
      tail = h.tail;
      slots = h.slots;
      entries = leb-true (s.head.h * s.head.slots) (length s.slots.entries) (and_first a (b && (c && (f && g))) l);
      counts = leb-true s.head.h (length s.slots.counts) (and_first b (c && (f && g)) l1);
      marks = leb-true s.head.made (length s.index.marks) (and_first c (f && g) l2);
      starts = leb-true (suc s.head.made) (length s.index.starts) (and_first f g l3);
      words = leb-true (s.head.h * words_for s.head.n) (length s.words) (and_second f g l3);
    }

maps-sound : (s : Store) → head_test s.head ≡ true → maps_test s ≡ true → MapsOk s
unfolding maps_test
maps-sound s e m =
    let a = inverse_test s.head.h s.rows.homes s.rows.logicals in
    let b = inverse_test s.head.made s.columns.homes s.columns.logicals in
    record {
      rows = inverse-sound s.head.h s.rows.homes s.rows.logicals (and_first a b m);
      columns = inverse-sound s.head.made s.columns.homes s.columns.logicals (and_second a b m);
      wide = (head-sound s.head e).wide;
    }

-- ---- one row
record RowOkAt (s : Store) (y : ℕ) : Type 0 where
  room : get_or s.slots.counts y 0 ≤ s.head.slots
  test : row_test (take s.head.made s.columns.logicals) (edge s) 0 (row s y) ≡ true
  zero : zero_from (part s.slots.entries (y * s.head.slots) s.head.slots) (get_or s.slots.counts y 0) ≡ true

row-parts : (s : Store) (y : ℕ) → row_at s y ≡ true → RowOkAt s y
unfolding row_at
row-parts s y e =
    let a = leb (get_or s.slots.counts y 0) s.head.slots in
    let b = row_test (take s.head.made s.columns.logicals) (edge s) 0 (row s y) in
    let c = zero_from (part s.slots.entries (y * s.head.slots) s.head.slots) (get_or s.slots.counts y 0) in
    record {
      room = leb-true (get_or s.slots.counts y 0) s.head.slots (and_first a (b && c) e);
      test = and_first b c (and_second a (b && c) e);
      zero = and_second b c (and_second a (b && c) e);
    }

module _ (s : Store) (maps : MapsOk s) where
  long-map : length (take s.head.made s.columns.logicals) ≡ s.head.made
  long-map = length-take-le s.head.made s.columns.logicals maps.columns.g-long

  rows-sound : all_below s.head.h (row_at s) ≡ true → RowsOk s
  rows-sound e =
      record {
        room = λ y hy. (at y hy).room;
        rising = λ y hy. (test-sound (row s y) (take s.head.made s.columns.logicals) (edge s) (at y hy).test).0.rises;
        home = λ y z hy m. (each y z hy m).0;
        sparse = λ y z hy m. (each y z hy m).1;
      }
    where
      at : (y : ℕ) → y < s.head.h → RowOkAt s y
      at y hy = row-parts s y (all-at (row_at s) s.head.h e y hy)

      each : (y z : ℕ) → y < s.head.h → member z (row s y) ≡ true → (z < s.head.made) × (logical_column s z < edge s)
      each y z hy m =
          let t = (test-sound (row s y) (take s.head.made s.columns.logicals) (edge s) (at y hy).test).1 z m in
          let low : z < s.head.made = omega (arith, t.0, long-map) in
          (low, rw (get_or-take s.head.made s.columns.logicals z 0 low) at t.1)

  slots-sound : all_below s.head.h (row_at s) ≡ true → (y k : ℕ) → y < s.head.h → get_or s.slots.counts y 0 ≤ k → k < s.head.slots
      → get_or s.slots.entries (y * s.head.slots + k) 0 ≡ 0
  slots-sound e y k hy low high =
      sym (part_at s.slots.entries (y * s.head.slots) s.head.slots k high)
      ∙ zero-sound (part s.slots.entries (y * s.head.slots) s.head.slots) (get_or s.slots.counts y 0) (row-parts s y (all-at (row_at s) s.head.h e y hy)).zero k low

-- ---- unused places, the switch
unused-sound : (s : Store) → unused_test s ≡ true → ((y k : ℕ) → y < s.head.h → get_or s.slots.counts y 0 ≤ k → k < s.head.slots → get_or s.slots.entries (y * s.head.slots + k) 0 ≡ 0) → Unused s
unfolding unused_test
unused-sound s e slots =
    let a = zero_from s.slots.entries (s.head.h * s.head.slots) in
    let b = zero_from s.slots.counts s.head.h in
    let c = zero_from s.rows.homes s.head.h in
    let d = zero_from s.rows.logicals s.head.h in
    let f = zero_from s.columns.homes s.head.made in
    let g = zero_from s.columns.logicals s.head.made in
    let h = zero_from s.words (s.head.h * words_for s.head.n) in
    let e1 = and_second a (b && (c && (d && (f && (g && h))))) e in
    let e2 = and_second b (c && (d && (f && (g && h)))) e1 in
    let e3 = and_second c (d && (f && (g && h))) e2 in
    let e4 = and_second d (f && (g && h)) e3 in
    let e5 = and_second f (g && h) e4 in
    record {
      slots = slots;
      entries = zero-sound s.slots.entries (s.head.h * s.head.slots) (and_first a (b && (c && (d && (f && (g && h))))) e);
      counts = zero-sound s.slots.counts s.head.h (and_first b (c && (d && (f && (g && h)))) e1);
      row-homes = zero-sound s.rows.homes s.head.h (and_first c (d && (f && (g && h))) e2);
      row-logicals = zero-sound s.rows.logicals s.head.h (and_first d (f && (g && h)) e3);
      column-homes = zero-sound s.columns.homes s.head.made (and_first f (g && h) e4);
      column-logicals = zero-sound s.columns.logicals s.head.made (and_first g h e5);
      words = zero-sound s.words (s.head.h * words_for s.head.n) (and_second g h e5);
    }

index-part : (s : Store) → pick s.head.on (on_test s) (off_test s) ≡ true → Switched s
unfolding on_test off_test
index-part s e =
    record {
      on = λ o. index-sound (row s) s.head.h s.head.made s.index.starts s.index.entries s.columns.logicals s.index.marks (edge s) (rw o at e);
      off-starts = λ o. zero-sound s.index.starts 0 (and_first a (b && c) (rw o at e));
      off-entries = λ o. zero-sound s.index.entries 0 (and_first b c (and_second a (b && c) (rw o at e)));
      off-marks = λ o. zero-sound s.index.marks 0 (and_second b c (and_second a (b && c) (rw o at e)));
    }
  where
    a : Bool
    a = zero_from s.index.starts 0

    b : Bool
    b = zero_from s.index.entries 0

    c : Bool
    c = zero_from s.index.marks 0

pub check_sound : (s : Store) → well_formed s ≡ true → WellFormed s
check_sound s e =
    let p = parts s e in
    let m = maps-sound s p.head p.maps in
    record {
      maps = m;
      rows = rows-sound s m p.rows;
      tail = record { padding = λ y hy. all-at (pad_clear s.words s.head.n) s.head.h p.tail y hy };
      index = index-part s p.index;
      limits = limits-sound s p.head p.long;
      unused = unused-sound s p.unused (slots-sound s m p.rows);
    }

-- ---- the other way
row-complete : (s : Store) → WellFormed s → (y : ℕ) → y < s.head.h → row_at s y ≡ true
unfolding row_at
row-complete s v y hy =
    rw (
      le-leb (get_or s.slots.counts y 0) s.head.slots (v.rows.room y hy),
      test-complete (row s y) (take s.head.made s.columns.logicals) (edge s) 0 (v.rows.rising y hy) each,
    ) (zero-complete (part s.slots.entries (y * s.head.slots) s.head.slots) (get_or s.slots.counts y 0) zero)
  where
    long : length (take s.head.made s.columns.logicals) ≡ s.head.made
    long = length-take-le s.head.made s.columns.logicals v.maps.columns.g-long

    each : (z : ℕ) → member z (row s y) ≡ true → (z < length (take s.head.made s.columns.logicals)) × (get_or (take s.head.made s.columns.logicals) z 0 < edge s)
    each z m =
        let low : z < s.head.made = v.rows.home y z hy m in
        (omega (arith, long, low), rw (get_or-take s.head.made s.columns.logicals z 0 low) (v.rows.sparse y z hy m))

    zero : (i : ℕ) → get_or s.slots.counts y 0 ≤ i → get_or (part s.slots.entries (y * s.head.slots) s.head.slots) i 0 ≡ 0
    zero i low = by-test (ltb i s.head.slots)
        (λ t. part_at s.slots.entries (y * s.head.slots) s.head.slots i (ltb-true i s.head.slots t) ∙ v.unused.slots y i hy low (ltb-true i s.head.slots t))
        (λ n. get_or-eq_default (part s.slots.entries (y * s.head.slots) s.head.slots) 0 {n = i}
        (omega (arith, ltb-false i s.head.slots n, part_length s.slots.entries (y * s.head.slots) s.head.slots (omega (arith, row-end y s.head.h s.head.slots hy, v.limits.entries)))))

pub check-complete : (s : Store) → WellFormed s → well_formed s ≡ true
unfolding well_formed head_test length_test maps_test unused_test on_test off_test
check-complete s v =
    let l = v.limits in
    let u = v.unused in
    rw (
      le-leb s.head.h height_limit l.height,
      le-leb s.head.made width_limit l.width,
      le-leb s.head.w s.head.made v.maps.wide,
      le-leb s.head.n s.head.w l.tail,
      le-leb s.head.slots slot_limit l.slots,
      le-leb (s.head.h * s.head.slots) (length s.slots.entries) l.entries,
      le-leb s.head.h (length s.slots.counts) l.counts,
      le-leb s.head.made (length s.index.marks) l.marks,
      le-leb (suc s.head.made) (length s.index.starts) l.starts,
      le-leb (s.head.h * words_for s.head.n) (length s.words) l.words,
      inverse-complete s.head.h s.rows.homes s.rows.logicals v.maps.rows,
      inverse-complete s.head.made s.columns.homes s.columns.logicals v.maps.columns,
      zero-complete s.slots.entries (s.head.h * s.head.slots) u.entries,
      zero-complete s.slots.counts s.head.h u.counts,
      zero-complete s.rows.homes s.head.h u.row-homes,
      zero-complete s.rows.logicals s.head.h u.row-logicals,
      zero-complete s.columns.homes s.head.made u.column-homes,
      zero-complete s.columns.logicals s.head.made u.column-logicals,
      zero-complete s.words (s.head.h * words_for s.head.n) u.words,
      all_of (row_at s) s.head.h (λ y hy. row-complete s v y hy),
      all_of (pad_clear s.words s.head.n) s.head.h v.tail.padding,
    ) (by-test s.head.on
    (λ o. rw o (index-complete (row s) s.head.h s.head.made s.index.starts s.index.entries s.columns.logicals s.index.marks (edge s) (v.index.on o)))
    (λ n. rw (n, zero-complete s.index.starts 0 (v.index.off-starts n), zero-complete s.index.entries 0 (v.index.off-entries n)) (zero-complete s.index.marks 0 (v.index.off-marks n))))
