-- Two home rows change places, with the maps: the store stays well-formed and its table the same. What RESIZE brings rows home by. Assumes nothing.
use mathlib.Core.Path.{◌≡◌, refl, sym, ap, ◌∙◌}
use mathlib.Core.Bool.{true, false}
use Prim.Native.Nat.{ℕ, ◌+◌, ◌-◌, ◌*◌, ◌<◌}
use native.Mathlib.Omega.{arith}
use lib.Dec.{ltb, eqb}
use lib.ListN.{get_or}
use borrow.Author.Tests.{ltb-false, eqb-true, eqb-false}
use Rattle.laws.specs.Plain.{exchange}
use Rattle.laws.specs.Parts.{row_of}
use Rattle.laws.specs.Words.{words_for, padding, word_of, bit_of, digit}
use Rattle.laws.proofs.Bools.{by-test, not-both}
use Rattle.laws.proofs.Numbers.{exchange-below, exchange-twice}
use Rattle.laws.proofs.Maps.{flip}
use Rattle.permutation.specs.Maps.{swapped}
use Rattle.permutation.proofs.Maps.{swapped-length, swapped_at, swapped-past, turned-length, turned-at, turned-past, exchanged}
use Rattle.tail.specs.Tail.{tail_bit, pad_clear}
use Rattle.tail.proofs.Tails.{pad-none, pad-same}
use Rattle.model.specs.Store.{Store, edge, row, home_row, cell, table_of}
use Rattle.model.specs.WellFormed.{WellFormed}
use Rattle.model.specs.Change.{swap_homes}
use Rattle.model.proofs.Same.{same-table, same-inside}
use Rattle.model.proofs.SameRoom.{SameRoom}
use Rattle.model.proofs.Exchanged.{exchanged-length, exchanged-at, exchanged-past, exchanged-part}

module _ (s : Store) (v : WellFormed s) (off : s.head.on ≡ false) (y x : ℕ) (hy : y < s.head.h) (hx : x < s.head.h) (ne : y ≡ x → ⊥) where
  to : ℕ → ℕ
  to q = exchange y x q

  to_in : (q : ℕ) → q < s.head.h → exchange y x q < s.head.h
  to_in q hq = exchange-below s.head.h y x q hy hx hq

  count_at : (q : ℕ) → get_or (swapped s.slots.counts y x) q 0 ≡ get_or s.slots.counts (exchange y x q) 0
  count_at q = swapped_at s.slots.counts y x q (omega (arith, v.limits.counts)) (omega (arith, v.limits.counts))

  row_at : (q : ℕ) → q < s.head.h → row (swap_homes s y x) q ≡ row s (exchange y x q)
  unfolding row_of
  row_at q hq = rw (count_at q)
      (exchanged-part s.slots.entries s.head.slots s.head.h y x hy hx ne v.limits.entries q (get_or s.slots.counts (exchange y x q) 0) hq (to_in q hq) (v.rows.room (exchange y x q) (to_in q hq)))

  tail_at : (q d : ℕ) → d < s.head.n → tail_bit (swap_homes s y x).words s.head.n q d ≡ tail_bit s.words s.head.n (exchange y x q) d
  unfolding tail_bit
  tail_at q d hd = ap (λ w. digit w (bit_of s.head.n d))
      (exchanged-at s.words (words_for s.head.n) s.head.h y x hy hx ne v.limits.words q (word_of s.head.n d) (in_row s.head.n d hd))
    where
      in_row : (n d : ℕ) → d < n → word_of n d < words_for n
      in_row n d h = omega arith

  pad-at : (q : ℕ) → q < s.head.h → pad_clear (swap_homes s y x).words s.head.n q ≡ true
  pad-at q hq = by-test (eqb s.head.n 0)
      (λ e. pad-none (swap_homes s y x).words s.head.n q (no-pad s.head.n (eqb-true s.head.n 0 e)))
      (λ n. pad-same (swap_homes s y x).words s.words s.head.n q (exchange y x q)
      (λ i hi. ap (λ w. digit w i) (first (some s.head.n (eqb-false s.head.n 0 n))))
      ∙ v.tail.padding (exchange y x q) (to_in q hq))
    where
      no-pad : (n : ℕ) → n ≡ 0 → padding n ≡ 0
      no-pad n e = rw e refl

      some : (n : ℕ) → (n ≡ 0 → ⊥) → 0 < words_for n
      some n e = omega arith

      first : 0 < words_for s.head.n → get_or (swap_homes s y x).words (q * words_for s.head.n) 0 ≡ get_or s.words (exchange y x q * words_for s.head.n) 0
      first h =
          let a : q * words_for s.head.n + 0 ≡ q * words_for s.head.n = omega arith in
          let b : exchange y x q * words_for s.head.n + 0 ≡ exchange y x q * words_for s.head.n = plus_none (exchange y x q * words_for s.head.n) in
          ap (λ i. get_or (swap_homes s y x).words i 0) (sym a)
          ∙ exchanged-at s.words (words_for s.head.n) s.head.h y x hy hx ne v.limits.words q 0 h
          ∙ ap (λ i. get_or s.words i 0) b
        where
          plus_none : (i : ℕ) → i + 0 ≡ i
          plus_none i = omega arith

  pub homes-ok : WellFormed (swap_homes s y x)
  homes-ok =
      record {
        maps =
            record {
              rows = flip s.head.h _ _ (exchanged s.head.h s.rows.logicals s.rows.homes (flip s.head.h s.rows.homes s.rows.logicals v.maps.rows) y x hy hx);
              columns = v.maps.columns;
              wide = v.maps.wide;
            };
        rows =
            record {
              room = λ q hq. rw (count_at q) (v.rows.room (exchange y x q) (to_in q hq));
              rising = λ q hq. rw (row_at q hq) (v.rows.rising (exchange y x q) (to_in q hq));
              home = λ q z hq m. v.rows.home (exchange y x q) z (to_in q hq) (rw (row_at q hq) at m);
              sparse = λ q z hq m. v.rows.sparse (exchange y x q) z (to_in q hq) (rw (row_at q hq) at m);
            };
        tail = record { padding = pad-at };
        index =
            record {
              on = λ e. not-both e off;
              off-starts = v.index.off-starts;
              off-entries = v.index.off-entries;
              off-marks = v.index.off-marks;
            };
        limits =
            record {
              height = v.limits.height;
              width = v.limits.width;
              tail = v.limits.tail;
              slots = v.limits.slots;
              entries = rw (exchanged-length s.slots.entries s.head.slots s.head.h y x hy hx ne v.limits.entries) v.limits.entries;
              counts = rw (swapped-length s.slots.counts y x) v.limits.counts;
              marks = v.limits.marks;
              starts = v.limits.starts;
              words = rw (exchanged-length s.words (words_for s.head.n) s.head.h y x hy hx ne v.limits.words) v.limits.words;
            };
        unused =
            record {
              slots = λ q k hq low high. exchanged-at s.slots.entries s.head.slots s.head.h y x hy hx ne v.limits.entries q k high
                  ∙ v.unused.slots (exchange y x q) k (to_in q hq) (rw (count_at q) at low) high;
              entries = λ i hi. exchanged-past s.slots.entries s.head.slots s.head.h y x hy hx ne v.limits.entries i hi ∙ v.unused.entries i hi;
              counts = λ i hi. swapped-past s.head.h s.slots.counts y x i hy hx hi ∙ v.unused.counts i hi;
              row-homes = λ i hi. turned-past s.head.h s.rows.logicals s.rows.homes (flip s.head.h s.rows.homes s.rows.logicals v.maps.rows) y x hy hx i hi ∙ v.unused.row-homes i hi;
              row-logicals = λ i hi. swapped-past s.head.h s.rows.logicals y x i hy hx hi ∙ v.unused.row-logicals i hi;
              column-homes = v.unused.column-homes;
              column-logicals = v.unused.column-logicals;
              words = λ i hi. exchanged-past s.words (words_for s.head.n) s.head.h y x hy hx ne v.limits.words i hi ∙ v.unused.words i hi;
            };
      }

  pub home_at : (r : ℕ) → r < s.head.h → home_row (swap_homes s y x) r ≡ exchange y x (home_row s r)
  home_at r hr = turned-at s.head.h s.rows.logicals s.rows.homes (flip s.head.h s.rows.homes s.rows.logicals v.maps.rows) y x hy hx r hr

  cell_at : (q c : ℕ) → q < s.head.h → c < s.head.w → cell (swap_homes s y x) q c ≡ cell s (exchange y x q) c
  cell_at q c hq hc = by-test (ltb c (edge s))
      (λ t. rw (t, row_at q hq))
      (λ n. rw n (tail_at q (c - edge s) (omega (arith, ltb-false c (edge s) n, v.limits.tail))))

  pub homes-mean : table_of (swap_homes s y x) ≡ table_of s
  homes-mean = same-table s.head.h s.head.w s.head.n s.head.on _ _ _ _ _ _
      (same-inside s.head.h s.head.w (λ r c. cell (swap_homes s y x) (home_row (swap_homes s y x) r) c) (λ r c. cell s (home_row s r) c)
      (λ r c hr hc. ap (λ q. cell (swap_homes s y x) q c) (home_at r hr)
      ∙ cell_at (exchange y x (home_row s r)) c (to_in (home_row s r) (v.maps.rows.f-below r hr)) hc
      ∙ ap (λ q. cell s q c) (exchange-twice y x (home_row s r))))
      (λ c. refl) (λ c. refl)

pub homes-room : (s : Store) → WellFormed s → (y x : ℕ) → y < s.head.h → x < s.head.h → (y ≡ x → ⊥) → SameRoom s (swap_homes s y x)
homes-room s v y x hy hx ne =
    record {
      slots = refl;
      entries = exchanged-length s.slots.entries s.head.slots s.head.h y x hy hx ne v.limits.entries;
      counts = swapped-length s.slots.counts y x;
      row-homes = turned-length s.rows.logicals s.rows.homes y x;
      row-logicals = swapped-length s.rows.logicals y x;
      column-homes = refl;
      column-logicals = refl;
      marks = refl;
      starts = refl;
      index = refl;
      words = exchanged-length s.words (words_for s.head.n) s.head.h y x hy hx ne v.limits.words;
    }
