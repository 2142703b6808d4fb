-- SET on a well-formed store: the row afterwards, what the callees ask, and one law for each way out. Assumes nothing.
use mathlib.Core.Path.{◌≡◌, refl, sym, ap, ◌∙◌}
use mathlib.Core.Bool.{Bool, true, false, not}
use mathlib.Core.Logic.{◌⊎◌, inl, inr, ⊎_elim}
use mathlib.Core.List.{List, []}
use Prim.Native.Nat.{ℕ, ◌-◌, ◌*◌, ◌≤◌, ◌<◌}
use native.Mathlib.Omega.{arith}
use lib.Dec.{leb, eqb}
use lib.ListN.{length, get_or, set}
use borrow.Author.Tests.{le-leb, lt-leb, lt-ltb, le-ltb, leb-true, leb-false, eqb-true, eq-eqb, ne_eqb, not-true, not-false}
use Rattle.laws.specs.Rows.{member}
use Rattle.laws.specs.Parts.{row_of}
use Rattle.laws.proofs.Bools.{by-test, and-false}
use Rattle.laws.proofs.Maps.{same_test}
use Rattle.laws.proofs.Select.{count_same}
use Rattle.sparse_vec.specs.Row.{put_row}
use Rattle.tail.specs.Tail.{tail_put, InTail}
use Rattle.table.specs.declared.SetCell.{SetCell}
use Rattle.table.specs.declared.Op.TheVariants.{Set}
use Rattle.table.specs.Table.{row_count}
use Rattle.table.specs.Step.{after}
use Rattle.model.specs.Store.{Store, Slots, edge, row, home_row, home_column, table_of}
use Rattle.model.specs.WellFormed.{WellFormed}
use Rattle.model.specs.Change.{with_words, set_row}
use Rattle.model.specs.Step.{inner}
use Rattle.model.proofs.Rows.{frame-of, row_fits}
use Rattle.model.proofs.SetCell.{set-member, set-from}
use Rattle.model.proofs.Passed.{CanSet, can-set}
use Rattle.model.proofs.Rows.{words-fit}
use Rattle.model.proofs.Walk.{list_count, sparse-bit, row_count_lem}
use Rattle.store_head.specs.Lent.{full_of}
use Rattle.store_head.specs.Refused.{refusal_of}
use Rattle.cells.specs.Cells.{RowKept}
use Rattle.store_head.proofs.Ends.{Refuses, Leaves}
use Rattle.store_head.proofs.Refuses.{past}

-- a store with other row lists
abbrev with_slots : Store → Slots → Store
with_slots s l = record { head = s.head; slots = l; rows = s.rows; columns = s.columns; index = s.index; words = s.words }

-- "v is a byte; any but 0 is one"
abbrev one : SetCell → Bool
one p = not (eqb p.v 0)

-- the row's list as SET leaves it
abbrev row_after : SetCell → Store → List ℕ
row_after p s = set_row (one p) (home_column s p.c) (row s (home_row s p.r))

module _ (s : Store) (p : SetCell) where
  pub set-row : s.head.h ≤ p.r → Refuses inner (Set p) s 4
  unfolding inner
  set-row h = rw (le-leb s.head.h p.r h)

  module _ (hr : p.r < s.head.h) where
    pub set-column : s.head.w ≤ p.c → Refuses inner (Set p) s 5
    unfolding inner
    set-column h = rw (lt-leb s.head.h p.r hr, le-leb s.head.w p.c h)

    pub set-phase : p.c < edge s → s.head.on ≡ true → Refuses inner (Set p) s 9
    unfolding inner
    set-phase low on = rw (lt-leb s.head.h p.r hr, lt-leb s.head.w p.c (omega arith), on, lt-leb (edge s) p.c low)

    module _ (v : WellFormed s) where
      home-in : home_row s p.r < s.head.h
      home-in = v.maps.rows.f-below p.r hr

      -- ---- a sparse column
      module _ (low : p.c < edge s) where
        c-in : p.c < s.head.made
        c-in = omega (arith, v.maps.wide)

        in_after : (z : ℕ) → member z (row_after p s) ≡ true → (z ≡ home_column s p.c) ⊎ (member z (row s (home_row s p.r)) ≡ true)
        in_after z m = by-test (eqb z (home_column s p.c))
            (λ e. inl (eqb-true z (home_column s p.c) e))
            (λ n. inr (rw n at (sym (set-member (one p) (home_column s p.c) z (row s (home_row s p.r)) (v.rows.rising (home_row s p.r) home-in)) ∙ m)))

        -- "the row afterwards has more sparse ones": as many as the list
        count-after : row_count (after (Set p) (table_of s)) p.r ≡ length (row_after p s)
        count-after =
            count_same (edge s) _ (λ k. member (home_column s k) (row_after p s)) same
            ∙ list_count s v (row_after p s) (set-from (one p) (home_column s p.c) (row s (home_row s p.r)) (v.rows.rising (home_row s p.r) home-in))
            (λ z m. ⊎_elim (λ e. rw e (v.maps.columns.f-below p.c c-in)) (λ o. v.rows.home (home_row s p.r) z home-in o) (in_after z m))
            (λ z m. ⊎_elim (λ e. omega (arith, ap (λ x. get_or s.columns.logicals x 0) e ∙ v.maps.columns.back p.c c-in)) (λ o. v.rows.sparse (home_row s p.r) z home-in o) (in_after z m))
          where
            same : (k : ℕ) → k < edge s → (after (Set p) (table_of s)).bit p.r k ≡ member (home_column s k) (row_after p s)
            same k hk =
                rw (eq-eqb p.r p.r refl, sparse-bit s v p.r hr k hk)
                (sym (set-member (one p) (home_column s p.c) (home_column s k) (row s (home_row s p.r)) (v.rows.rising (home_row s p.r) home-in)
                ∙ rw (same_test s.head.made s.columns.homes s.columns.logicals v.maps.columns k p.c (omega (arith, v.maps.wide)) c-in)))

        -- ---- what the callees ask, where a is the home row, and z the home column of i, which is c
        pub column-in : (i : ℕ) → i ≡ p.c → i < length s.columns.homes
        column-in i e = omega (arith, v.maps.columns.f-long, c-in)

        -- ---- the two ways out with the index off
        module _ (a i z : ℕ) (home : a ≡ home_row s p.r) (is : i ≡ p.c) (column : z ≡ get_or s.columns.homes i 0) (off : s.head.on ≡ false)
            (b : Bool) (fits : b ≡ leb (length (set_row (one p) z (row s a))) s.head.slots) where
          same_row : set_row (one p) z (row s a) ≡ row_after p s
          same_row = rw (column, is, home)

          pub set_full : not b ≡ true → Refuses inner (Set p) s 12
          unfolding inner
          set_full full =
              rw (
                lt-leb s.head.h p.r hr,
                lt-leb s.head.w p.c (omega arith),
                off,
                count-after,
                lt-ltb s.head.slots (length (row_after p s)) (rw same_row at (leb-false _ s.head.slots (sym fits ∙ not-true b full))),
              )

          pub row_room : not b ≡ false → length (set_row (one p) z (row s a)) ≤ s.head.slots
          row_room fit = leb-true _ s.head.slots (sym fits ∙ not-false b fit)

          pub set-sparse : not b ≡ false → (entries counts : List ℕ)
              → (entries ≡ put_row s.slots.entries (a * s.head.slots) s.head.slots (set_row (one p) z (row s a)))
              × (counts ≡ set s.slots.counts a (length (set_row (one p) z (row s a))))
              → Leaves inner (Set p) s (with_slots s (record { entries = entries; counts = counts }))
          unfolding inner
          set-sparse fit entries counts h =
              rw (
                h.0,
                h.1,
                same_row,
                home,
                lt-leb s.head.h p.r hr,
                lt-leb s.head.w p.c (omega arith),
                off,
                count-after,
                le-ltb s.head.slots (length (row_after p s)) (rw same_row at (row_room fit)),
                lt-ltb p.c (edge s) low,
              )

      pub row_kept : (a : ℕ) → a ≡ home_row s p.r → RowKept s.slots.entries s.slots.counts a s.head.slots
      unfolding row_of
      row_kept a e =
          rw e
          (record {
            counted = omega (arith, v.limits.counts, home-in);
            low = v.limits.slots;
            row =
                record {
                  fits = row_fits s (edge s) (frame-of s v) (home_row s p.r) home-in;
                  room = v.rows.room (home_row s p.r) home-in;
                  rising = record { rises = v.rows.rising (home_row s p.r) home-in };
                  unused = λ k l h. v.unused.slots (home_row s p.r) k home-in l h;
                };
          })

      -- ---- a tail column
      module _ (hc : p.c < s.head.w) (high : edge s ≤ p.c) (a : ℕ) (home : a ≡ home_row s p.r) where
        pub tail-can : InTail s.words s.head.n a (p.c - edge s)
        tail-can =
            rw home
            (record {
              small = omega (arith, v.limits.tail, v.maps.wide, v.limits.width);
              column = omega (arith, v.limits.tail);
              row = words-fit s v (home_row s p.r) home-in;
            })

        -- the sparse ones of the row stay as many
        tail-count : row_count (after (Set p) (table_of s)) p.r ≡ get_or s.slots.counts (home_row s p.r) 0
        tail-count =
            count_same (edge s) _ ((table_of s).bit p.r) (λ k hk. rw (ne_eqb k p.c (λ e. omega arith), and-false (eqb p.r p.r)))
            ∙ row_count_lem s v p.r hr

        pub set-tail : (words : List ℕ) → words ≡ tail_put s.words s.head.n a (p.c - edge s) (one p)
            → Leaves inner (Set p) s (with_words s words)
        unfolding inner
        set-tail words e =
            rw (
              e,
              home,
              lt-leb s.head.h p.r hr,
              lt-leb s.head.w p.c hc,
              le-leb (edge s) p.c high,
              and-false s.head.on,
              tail-count,
              le-ltb s.head.slots (get_or s.slots.counts (home_row s p.r) 0) (v.rows.room (home_row s p.r) home-in),
              le-ltb p.c (edge s) high,
            )

-- ---- nothing refuses
module _ (s : Store) (v : WellFormed s) (p : SetCell) (free : 0 ≡ refusal_of (inner (Set p) (full_of s []))) where
  can : CanSet s p
  can = let b = past (Set p) (full_of s []) free in can-set (full_of s []) v p b.0 b.1

  pub row_low : p.r < s.head.h
  row_low = can.row_in

  pub column-low : p.c < s.head.w
  column-low = can.column-in

  module _ (low : p.c < edge s) (a i z : ℕ) (home : a ≡ home_row s p.r) (is : i ≡ p.c) (column : z ≡ get_or s.columns.homes i 0) where
    pub has-slot : length (set_row (one p) z (row s a)) ≤ s.head.slots
    has-slot = rw (column, is, home) (can.sparse low).1

    pub sparse-done : (entries counts : List ℕ)
        → (entries ≡ put_row s.slots.entries (a * s.head.slots) s.head.slots (set_row (one p) z (row s a)))
        × (counts ≡ set s.slots.counts a (length (set_row (one p) z (row s a))))
        → Leaves inner (Set p) s (with_slots s (record { entries = entries; counts = counts }))
    sparse-done = set-sparse s p row_low v low a i z home is column (can.sparse low).0 true (sym (le-leb (length (set_row (one p) z (row s a))) s.head.slots has-slot)) refl
