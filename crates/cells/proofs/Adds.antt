-- ADD on a well-formed store: what its inner functions ask, its refusals, and the store that it leaves. Assumes nothing.
use mathlib.Core.Path.{◌≡◌, refl, sym, ap, ◌∙◌}
use mathlib.Core.Bool.{Bool, true, false, not, ◌&&◌, ◌||◌}
use mathlib.Core.List.{List, [], ◌∷◌}
use Prim.Native.Nat.{ℕ, ◌*◌, ◌≤◌, ◌<◌}
use native.Mathlib.Omega.{arith}
use lib.Dec.{leb, ltb, eqb}
use lib.ListN.{length, get_or, set}
use borrow.Author.Tests.{lt-leb, le-leb, le-ltb, eqb-true, eq-eqb, ne_eqb, leb-true, leb-false, lt-ltb}
use Rattle.laws.specs.Plain.{pick}
use Rattle.laws.specs.Rows.{xor_merge}
use Rattle.laws.specs.Parts.{row_of}
use Rattle.laws.specs.Words.{words_for}
use Rattle.laws.proofs.Bools.{by-test}
use Rattle.laws.proofs.Maps.{one-to-one}
use Rattle.sparse_vec.specs.Row.{HasRow, put_row}
use Rattle.tail.specs.Tail.{TwoRows, xored}
use Rattle.table.specs.declared.Addition.{Addition}
use Rattle.table.specs.declared.Op.TheVariants.{Add}
use Rattle.table.specs.Table.{row_count, sparse_ones}
use Rattle.table.specs.Step.{after, not_single}
use Rattle.table.specs.Refusals.{refused, done}
use Rattle.table.specs.Run.{ok}
use Rattle.model.specs.Store.{Store, Full, edge, row, home_row, table_of}
use Rattle.model.specs.WellFormed.{WellFormed}
use Rattle.model.specs.Change.{add_sparse, spend, add_tail, add_homes}
use Rattle.model.specs.Step.{Result, inner, result_of}
use Rattle.model.proofs.Rows.{rows_apart, frame-of, row_fits, row-length, words-fit}
use Rattle.model.proofs.Counts.{single-means, add-count, add-count-tail}
use Rattle.model.proofs.AddMeans.{Single, CanAddRows}
use Rattle.model.proofs.Passed.{can-add}
use Rattle.store_head.specs.Lent.{full_of}
use Rattle.store_head.specs.Refused.{refusal_of}
use Rattle.cells.specs.Added.{CanSum, CanAddLists, CanSpend, sum_of_rows, not_one, sum_refused}
use Rattle.store_head.proofs.Refuses.{past, accepted}
use Rattle.cells.proofs.Sums.{row_first}

-- five refusals, one after the other
numbers : (a b c d e : Bool) (u : Full) (l : List ℕ)
    → refusal_of (pick a (refused 4) (pick b (refused 6) (pick c (refused 7) (pick d (refused 10) (pick e (refused 12) (done u l)))))) ≡ pick a 4 (pick b 6 (pick c 7 (pick d 10 (pick e 12 0))))
numbers true b c d e u l = refl
numbers false true c d e u l = refl
numbers false false true d e u l = refl
numbers false false false true e u l = refl
numbers false false false false true u l = refl
numbers false false false false false u l = refl

-- the room test is the converse of the code's
full-test : (n k : ℕ) → ◌≡◌ {A = ℕ} (pick (ltb k n) 12 0) (pick (leb n k) 0 12)
full-test n k = by-test (leb n k)
    (λ t. rw (t, le-ltb k n (leb-true n k t)))
    (λ f. rw (f, lt-ltb k n (leb-false n k f)))

-- the lists of two home rows
pub home-sum : (s : Store) → WellFormed s → (y x : ℕ) → y < s.head.h → x < s.head.h → (y ≡ x → ⊥) → CanSum s.slots.entries s.slots.counts s.head.slots y x
unfolding row_of
home-sum s v y x hy hx ne =
    record {
      small = v.limits.slots;
      y-in = omega (arith, v.limits.counts);
      x-in = omega (arith, v.limits.counts);
      rows = record { row = has y hy; source = has x hx; apart = rows_apart s.head.slots y x ne };
    }
  where
    has : (q : ℕ) → q < s.head.h → HasRow s.slots.entries (q * s.head.slots) (get_or s.slots.counts q 0) s.head.slots
    has q hq =
        record {
          fits = row_fits s (edge s) (frame-of s v) q hq;
          room = v.rows.room q hq;
          rising = record { rises = v.rows.rising q hq };
          unused = λ k low high. v.unused.slots q k hq low high;
        }

pub can-sum : (s : Store) → WellFormed s → (d e : ℕ) → d < s.head.h → e < s.head.h → (d ≡ e → ⊥) → (y x : ℕ) → y ≡ home_row s d → x ≡ home_row s e
    → CanSum s.slots.entries s.slots.counts s.head.slots y x
can-sum s v d e hd he ne y x y-is x-is =
    rw (y-is, x-is) (home-sum s v (home_row s d) (home_row s e) (v.maps.rows.f-below d hd) (v.maps.rows.f-below e he)
    (λ q. ne (one-to-one s.head.h s.rows.homes s.rows.logicals v.maps.rows d e hd he q)))

module _ (s : Store) (v : WellFormed s) (p : Addition) where
  -- the refusal as a choice by five tests
  chosen : refusal_of (inner (Add p) (full_of s []))
      ≡ pick (leb s.head.h p.d || leb s.head.h p.s) 4
      (pick (not (eqb p.start 0) && not (eqb p.start (edge s))) 6
      (pick (eqb p.d p.s) 7
      (pick (eqb p.start 0 && s.head.on && not_single (sparse_ones (table_of s) p.s) ((table_of s).bit p.d)) 10
      (pick (ltb s.head.slots (row_count (after (Add p) (table_of s)) p.d)) 12 0))))
  unfolding inner
  chosen = numbers (leb s.head.h p.d || leb s.head.h p.s) (not (eqb p.start 0) && not (eqb p.start (edge s))) (eqb p.d p.s)
      (eqb p.start 0 && s.head.on && not_single (sparse_ones (table_of s) p.s) ((table_of s).bit p.d))
      (ltb s.head.slots (row_count (after (Add p) (table_of s)) p.d)) _ _

  pub row-d : s.head.h ≤ p.d → 4 ≡ refusal_of (inner (Add p) (full_of s []))
  row-d h = sym (chosen ∙ rw (le-leb s.head.h p.d h))

  module _ (hd : p.d < s.head.h) where
    pub row-s : s.head.h ≤ p.s → 4 ≡ refusal_of (inner (Add p) (full_of s []))
    row-s h = sym (chosen ∙ rw (lt-leb s.head.h p.d hd, le-leb s.head.h p.s h))

    module _ (hs : p.s < s.head.h) (side : Bool) (side-is : side ≡ not (eqb p.start 0) && not (eqb p.start (edge s))) where
      pub start-side : side ≡ true → 6 ≡ refusal_of (inner (Add p) (full_of s []))
      start-side t = sym (chosen ∙ rw (lt-leb s.head.h p.d hd, lt-leb s.head.h p.s hs, sym side-is ∙ t))

      module _ (right : side ≡ false) where
        pub same_row : p.d ≡ p.s → 7 ≡ refusal_of (inner (Add p) (full_of s []))
        same_row e = sym (chosen ∙ rw (lt-leb s.head.h p.d hd, lt-leb s.head.h p.s hs, sym side-is ∙ right, eq-eqb p.d p.s e))

        module _ (ne : p.d ≡ p.s → ⊥) where
          -- "at the tail start" the rows' lists stay as they are
          pub tail-start : (p.start ≡ 0 → ⊥) → 0 ≡ refusal_of (inner (Add p) (full_of s []))
          tail-start z =
              let at_edge : p.start ≡ edge s = by-test (eqb p.start (edge s)) (λ t. eqb-true p.start (edge s) t) (λ n. absurd (never (rw (n, ne_eqb p.start 0 z) at (sym side-is ∙ right)))) in
              sym (chosen ∙ rw (
                lt-leb s.head.h p.d hd,
                lt-leb s.head.h p.s hs,
                sym side-is ∙ right,
                ne_eqb p.d p.s ne,
                ne_eqb p.start 0 z,
                add-count-tail s v p hd at_edge,
                le-ltb s.head.slots (get_or s.slots.counts (home_row s p.d) 0) (v.rows.room (home_row s p.d) (v.maps.rows.f-below p.d hd)),
              ))
            where
              never : true ≡ false → ⊥
              never e = let z : ◌≡◌ {A = ℕ} 0 1 = cc in omega arith

          pub sum-start : p.start ≡ 0 → (y x k : ℕ) → y ≡ home_row s p.d → x ≡ home_row s p.s
              → k ≡ sum_refused s.head.on s.slots.entries s.slots.counts s.head.slots y x → k ≡ refusal_of (inner (Add p) (full_of s []))
          unfolding sum_refused not_one sum_of_rows
          sum-start z y x k y-is x-is e =
              e ∙ rw (y-is, x-is) (sym (chosen ∙ rw (
                lt-leb s.head.h p.d hd,
                lt-leb s.head.h p.s hs,
                sym side-is ∙ right,
                ne_eqb p.d p.s ne,
                eq-eqb p.start 0 z,
                single-means s v p.d p.s hd hs,
                add-count s v p hd hs z,
                full-test (length (xor_merge (row s (home_row s p.d)) (row s (home_row s p.s)))) s.head.slots,
              )))

-- ---- accepted

-- a store with the four lists that ADD changes
abbrev left : Store → (slots counts marks words : List ℕ) → Store
left s slots counts marks words =
    record {
      head = s.head;
      slots = record { entries = slots; counts = counts };
      rows = s.rows;
      columns = s.columns;
      index = record { starts = s.index.starts; entries = s.index.entries; marks = marks };
      words = words;
    }

-- the lists one by one are the store that add_homes leaves, where z is the source's one number
list-by-list : (s : Store) (y x z : ℕ) (all on : Bool) → (all ≡ true → on ≡ true → row s x ≡ z ∷ [])
    → left s (pick all (put_row s.slots.entries (y * s.head.slots) s.head.slots (xor_merge (row s y) (row s x))) s.slots.entries)
    (pick all (set s.slots.counts y (length (xor_merge (row s y) (row s x)))) s.slots.counts)
    (pick all (pick on (set s.index.marks z 1) s.index.marks) s.index.marks) (xored s.words (words_for s.head.n) y x)
    ≡ add_tail (pick all (add_sparse (pick on (spend s (row s x)) s) y x) s) y x
list-by-list s y x z true true one = sym (ap (λ (l : List ℕ). add_tail (add_sparse (spend s l) y x) y x) (one refl refl))
list-by-list s y x z true false one = refl
list-by-list s y x z false on one = refl

module _ (s : Store) (v : WellFormed s) (p : Addition) (free : 0 ≡ refusal_of (inner (Add p) (full_of s []))) where
  can : CanAddRows s p
  can = let b = past (Add p) (full_of s []) free in can-add (full_of s []) v p b.0 b.1

  pub home-d : p.d < length s.rows.homes
  home-d = omega (arith, can.d-in, v.maps.rows.f-long)

  pub home-s : p.s < length s.rows.homes
  home-s = omega (arith, can.s-in, v.maps.rows.f-long)

  module _ (y x : ℕ) (y-is : y ≡ home_row s p.d) (x-is : x ≡ home_row s p.s) where
    hy : y < s.head.h
    hy = rw y-is (v.maps.rows.f-below p.d can.d-in)

    hx : x < s.head.h
    hx = rw x-is (v.maps.rows.f-below p.s can.s-in)

    differ : y ≡ x → ⊥
    differ e = can.differ (one-to-one s.head.h s.rows.homes s.rows.logicals v.maps.rows p.d p.s can.d-in can.s-in (sym y-is ∙ e ∙ x-is))

    single : p.start ≡ 0 → s.head.on ≡ true → Single s y x
    single z o = rw (y-is, x-is) (can.single z o)

    -- the source's one number stands at its first place
    first-is : (one : Single s y x) → get_or s.slots.entries (x * s.head.slots) 0 ≡ one.z
    first-is one =
        let long : length (row s x) ≡ 1 = ap length one.one in
        sym (row_first s.slots.entries s.slots.counts s.head.slots x (omega (arith, row-length s (edge s) (frame-of s v) x hx))) ∙ ap (λ (l : List ℕ). get_or l 0 0) one.one

    pub spend-can : CanSpend s.slots.entries s.index.marks (eqb p.start 0) s.head.on s.head.slots x
    spend-can =
        record {
          place = λ a o. let long : length (row s x) ≡ 1 = ap length (single (eqb-true p.start 0 a) o).one in
              omega (arith, row-length s (edge s) (frame-of s v) x hx, v.rows.room x hx, row_fits s (edge s) (frame-of s v) x hx);
          mark = λ a o. let one : Single s y x = single (eqb-true p.start 0 a) o in
              omega (arith, first-is one, v.rows.home y one.z hy one.has, v.limits.marks);
        }

    pub lists-can : CanAddLists s.slots.entries s.slots.counts (eqb p.start 0) s.head.slots y x
    unfolding sum_of_rows
    lists-can = record { rows = home-sum s v y x hy hx differ; room = λ a. rw (y-is, x-is) (can.short (eqb-true p.start 0 a)) }

    pub tail-can : (size : ℕ) → size ≡ words_for s.head.n → TwoRows s.words size y x
    tail-can size e = rw e (record { differ = differ; to = words-fit s v y hy; from = words-fit s v x hx })

    pub add_done : (slots counts marks words : List ℕ) (size : ℕ) → size ≡ words_for s.head.n
        → marks ≡ pick (eqb p.start 0) (pick s.head.on (set s.index.marks (get_or s.slots.entries (x * s.head.slots) 0) 1) s.index.marks) s.index.marks
        → (slots ≡ pick (eqb p.start 0) (put_row s.slots.entries (y * s.head.slots) s.head.slots (sum_of_rows s.slots.entries s.slots.counts s.head.slots y x)) s.slots.entries)
        × (counts ≡ pick (eqb p.start 0) (set s.slots.counts y (length (sum_of_rows s.slots.entries s.slots.counts s.head.slots y x))) s.slots.counts)
        → words ≡ xored s.words size y x
        → ◌≡◌ {A = Result} (record { reply = ok []; after = full_of (left s slots counts marks words) [] }) (result_of (full_of s []) (inner (Add p) (full_of s [])))
    unfolding sum_of_rows
    add_done slots counts marks words size size_is marks-are lists-are words_are =
        ap (λ (u : Store). record { reply = ok []; after = full_of u [] }) (is-homes ∙ rw (y-is, x-is)) ∙ sym (accepted (Add p) (full_of s []) free)
      where
        is-homes : left s slots counts marks words ≡ add_homes s y x (eqb p.start 0)
        is-homes = rw (marks-are, lists-are.0, lists-are.1, words_are, size_is) (list-by-list s y x (get_or s.slots.entries (x * s.head.slots) 0) (eqb p.start 0) s.head.on
            (λ a o. let one : Single s y x = single (eqb-true p.start 0 a) o in one.one ∙ ap (λ (z : ℕ). z ∷ []) (sym (first-is one))))
