-- RESIZE, second step: the rows from k on are dropped, and what they held is cleared. Assumes nothing.
use mathlib.Core.Path.{◌≡◌, refl, sym, ap, ◌∙◌}
use mathlib.Core.Bool.{true, false}
use mathlib.Core.Logic.{inl, ⊎_elim}
use mathlib.Core.List.{List}
use Prim.Native.Nat.{ℕ, ◌+◌, ◌-◌, ◌*◌, ◌≤◌, ◌<◌}
use native.Mathlib.Omega.{arith}
use native.Mathlib.Nat.{mul-le-mul_right}
use lib.Dec.{ltb, eqb}
use lib.ListN.{length, get_or}
use borrow.Author.Tests.{ltb-false, eqb-true, eqb-false}
use Rattle.laws.specs.Parts.{zeros, part, row_of}
use Rattle.laws.specs.Words.{words_for, padding, word_of, bit_of, digit}
use Rattle.laws.proofs.Bools.{by-test, not-both}
use Rattle.laws.proofs.Numbers.{lt-or-le}
use Rattle.laws.proofs.Parts.{zeros-length, zeros-at, part_apart, put-length, put-below, put-in, put-above, row-end}
use Rattle.tail.specs.Tail.{tail_bit, pad_clear}
use Rattle.tail.proofs.Tails.{pad-none, pad-same}
use Rattle.model.specs.Store.{Store, edge, row, home_row, cell}
use Rattle.model.specs.WellFormed.{WellFormed}
use Rattle.model.specs.Change.{cleared, drop_rows}
use Rattle.model.proofs.SameRoom.{SameRoom}

-- ---- zeros from place k to before m
module _ (l : List ℕ) (k m : ℕ) (up : k ≤ m) (fits : m ≤ length l) where
  room : k + length (zeros (m - k)) ≤ length l
  room = omega (arith, zeros-length (m - k))

  pub cleared-length : length (cleared l k m) ≡ length l
  cleared-length = put-length l k (zeros (m - k)) room

  pub cleared-low : (i : ℕ) → i < k → get_or (cleared l k m) i 0 ≡ get_or l i 0
  cleared-low i h = put-below l k (zeros (m - k)) room i h

  -- where all from m on was zero, all from k on is
  pub cleared-rest : ((i : ℕ) → m ≤ i → get_or l i 0 ≡ 0) → (i : ℕ) → k ≤ i → get_or (cleared l k m) i 0 ≡ 0
  cleared-rest z i h = ⊎_elim
      (λ (o : i < m). let e : k + (i - k) ≡ i = omega arith in
      ap (λ x. get_or (cleared l k m) x 0) (sym e) ∙ put-in l k (zeros (m - k)) room (i - k) (omega (arith, zeros-length (m - k))) ∙ zeros-at (m - k) (i - k))
      (λ (o : m ≤ i). put-above l k (zeros (m - k)) room i (omega (arith, zeros-length (m - k))) ∙ z i o)
      (lt-or-le i m)

  pub cleared-part : (c n : ℕ) → c + n ≤ k → part (cleared l k m) c n ≡ part l c n
  cleared-part c n h = part_apart l k (zeros (m - k)) room c n (inl h) (omega arith)

-- rows brought home, k of them kept, the index off
module _ (s : Store) (v : WellFormed s) (off : s.head.on ≡ false) (k : ℕ) (hk : k ≤ s.head.h) (home : (r : ℕ) → r < k → home_row s r ≡ r) where
  n-words : ℕ
  n-words = words_for s.head.n

  few : (c : ℕ) → k * c ≤ s.head.h * c
  few c = mul-le-mul_right c hk

  entries : List ℕ
  entries = cleared s.slots.entries (k * s.head.slots) (s.head.h * s.head.slots)

  words : List ℕ
  words = cleared s.words (k * words_for s.head.n) (s.head.h * words_for s.head.n)

  logical : (y : ℕ) → y < k → get_or s.rows.logicals y 0 ≡ y
  logical y h = ap (λ i. get_or s.rows.logicals i 0) (sym (home y h)) ∙ v.maps.rows.back y (omega arith)

  count_at : (y : ℕ) → y < k → get_or (cleared s.slots.counts k s.head.h) y 0 ≡ get_or s.slots.counts y 0
  count_at y h = cleared-low s.slots.counts k s.head.h hk v.limits.counts y h

  row_at : (y : ℕ) → y < k → row (drop_rows k s) y ≡ row s y
  unfolding row_of
  row_at y h = rw (count_at y h)
      (cleared-part s.slots.entries (k * s.head.slots) (s.head.h * s.head.slots) (few s.head.slots) v.limits.entries (y * s.head.slots) (get_or s.slots.counts y 0)
      (omega (arith, row-end y k s.head.slots h, v.rows.room y (omega arith))))

  word_at : (y i : ℕ) → y < k → i < words_for s.head.n → get_or (drop_rows k s).words (y * words_for s.head.n + i) 0 ≡ get_or s.words (y * words_for s.head.n + i) 0
  word_at y i h l = cleared-low s.words (k * words_for s.head.n) (s.head.h * words_for s.head.n) (few (words_for s.head.n)) v.limits.words
      (y * words_for s.head.n + i) (below (words_for s.head.n) l)
    where
      below : (c : ℕ) → i < c → y * c + i < k * c
      below c l' = omega (arith, row-end y k c h)

  tail_at : (y d : ℕ) → y < k → d < s.head.n → tail_bit (drop_rows k s).words s.head.n y d ≡ tail_bit s.words s.head.n y d
  unfolding tail_bit
  tail_at y d h l = ap (λ w. digit w (bit_of s.head.n d)) (word_at y (word_of s.head.n d) h (in_row s.head.n d l))
    where
      in_row : (n d : ℕ) → d < n → word_of n d < words_for n
      in_row n d q = omega arith

  pad-at : (y : ℕ) → y < k → pad_clear (drop_rows k s).words s.head.n y ≡ true
  pad-at y h = by-test (eqb s.head.n 0)
      (λ e. pad-none (drop_rows k s).words s.head.n y (no-pad s.head.n (eqb-true s.head.n 0 e)))
      (λ n. pad-same (drop_rows k s).words s.words s.head.n y y (λ i l. ap (λ w. digit w i) (first (some s.head.n (eqb-false s.head.n 0 n))))
      ∙ v.tail.padding y (omega arith))
    where
      no-pad : (n : ℕ) → n ≡ 0 → padding n ≡ 0
      no-pad n e = rw e refl

      some : (n : ℕ) → (n ≡ 0 → ⊥) → 0 < words_for n
      some n e = omega arith

      plus_none : (i : ℕ) → i + 0 ≡ i
      plus_none i = omega arith

      first : 0 < words_for s.head.n → get_or (drop_rows k s).words (y * words_for s.head.n) 0 ≡ get_or s.words (y * words_for s.head.n) 0
      first l = ap (λ i. get_or (drop_rows k s).words i 0) (sym (plus_none (y * words_for s.head.n))) ∙ word_at y 0 h l ∙ ap (λ i. get_or s.words i 0) (plus_none (y * words_for s.head.n))

  home_at : (r : ℕ) → r < k → get_or (cleared s.rows.homes k s.head.h) r 0 ≡ r
  home_at r h = cleared-low s.rows.homes k s.head.h hk v.maps.rows.f-long r h ∙ home r h

  logical-at : (y : ℕ) → y < k → get_or (cleared s.rows.logicals k s.head.h) y 0 ≡ y
  logical-at y h = cleared-low s.rows.logicals k s.head.h hk v.maps.rows.g-long y h ∙ logical y h

  pub drop-rows-ok : WellFormed (drop_rows k s)
  drop-rows-ok =
      record {
        maps =
            record {
              rows =
                  record {
                    f-long = rw (cleared-length s.rows.homes k s.head.h hk v.maps.rows.f-long) (omega (arith, v.maps.rows.f-long));
                    g-long = rw (cleared-length s.rows.logicals k s.head.h hk v.maps.rows.g-long) (omega (arith, v.maps.rows.g-long));
                    f-below = λ r h. rw (home_at r h) h;
                    g-below = λ y h. rw (logical-at y h) h;
                    back = λ r h. rw (home_at r h) (logical-at r h);
                    forth = λ y h. rw (logical-at y h) (home_at y h);
                  };
              columns = v.maps.columns;
              wide = v.maps.wide;
            };
        rows =
            record {
              room = λ y h. rw (count_at y h) (v.rows.room y (omega arith));
              rising = λ y h. rw (row_at y h) (v.rows.rising y (omega arith));
              home = λ y z h m. v.rows.home y z (omega arith) (rw (row_at y h) at m);
              sparse = λ y z h m. v.rows.sparse y z (omega arith) (rw (row_at y h) at m);
            };
        tail = record { padding = pad-at };
        index =
            record {
              on = λ e. not-both e off;
              off-starts = v.index.off-starts;
              off-entries = v.index.off-entries;
              off-marks = v.index.off-marks;
            };
        limits =
            record {
              height = omega (arith, v.limits.height);
              width = v.limits.width;
              tail = v.limits.tail;
              slots = v.limits.slots;
              entries = rw (cleared-length s.slots.entries (k * s.head.slots) (s.head.h * s.head.slots) (few s.head.slots) v.limits.entries) (omega (arith, few s.head.slots, v.limits.entries));
              counts = rw (cleared-length s.slots.counts k s.head.h hk v.limits.counts) (omega (arith, v.limits.counts));
              marks = v.limits.marks;
              starts = v.limits.starts;
              words = rw (cleared-length s.words (k * words_for s.head.n) (s.head.h * words_for s.head.n) (few (words_for s.head.n)) v.limits.words) (omega (arith, few (words_for s.head.n), v.limits.words));
            };
        unused =
            record {
              slots = λ y i h low high. cleared-low s.slots.entries (k * s.head.slots) (s.head.h * s.head.slots) (few s.head.slots) v.limits.entries (y * s.head.slots + i) (omega (arith, row-end y k s.head.slots h))
                  ∙ v.unused.slots y i (omega arith) (rw (count_at y h) at low) high;
              entries = cleared-rest s.slots.entries (k * s.head.slots) (s.head.h * s.head.slots) (few s.head.slots) v.limits.entries v.unused.entries;
              counts = cleared-rest s.slots.counts k s.head.h hk v.limits.counts v.unused.counts;
              row-homes = cleared-rest s.rows.homes k s.head.h hk v.maps.rows.f-long v.unused.row-homes;
              row-logicals = cleared-rest s.rows.logicals k s.head.h hk v.maps.rows.g-long v.unused.row-logicals;
              column-homes = v.unused.column-homes;
              column-logicals = v.unused.column-logicals;
              words = cleared-rest s.words (k * words_for s.head.n) (s.head.h * words_for s.head.n) (few (words_for s.head.n)) v.limits.words v.unused.words;
            };
      }

  -- a kept row's cells stay
  pub drop-rows-cell : (r c : ℕ) → r < k → c < s.head.w → cell (drop_rows k s) (home_row (drop_rows k s) r) c ≡ cell s (home_row s r) c
  drop-rows-cell r c h hc = rw (home_at r h, home r h) (by-test (ltb c (edge s))
      (λ t. rw (t, row_at r h))
      (λ n. rw n (tail_at r (c - edge s) h (omega (arith, ltb-false c (edge s) n, v.limits.tail)))))

  pub drop-rows-room : SameRoom s (drop_rows k s)
  drop-rows-room =
      record {
        slots = refl;
        entries = cleared-length s.slots.entries (k * s.head.slots) (s.head.h * s.head.slots) (few s.head.slots) v.limits.entries;
        counts = cleared-length s.slots.counts k s.head.h hk v.limits.counts;
        row-homes = cleared-length s.rows.homes k s.head.h hk v.maps.rows.f-long;
        row-logicals = cleared-length s.rows.logicals k s.head.h hk v.maps.rows.g-long;
        column-homes = refl;
        column-logicals = refl;
        marks = refl;
        starts = refl;
        index = refl;
        words = cleared-length s.words (k * words_for s.head.n) (s.head.h * words_for s.head.n) (few (words_for s.head.n)) v.limits.words;
      }
