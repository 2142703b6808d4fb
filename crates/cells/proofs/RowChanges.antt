-- One number put into a row's list or taken out of it: whether there is room, and the row with its count. Assumes nothing.
use mathlib.Core.Path.{◌≡◌, sym, ap, ◌∙◌}
use mathlib.Core.Bool.{Bool, true, false, not}
use mathlib.Core.List.{List}
use Prim.Native.Nat.{ℕ, suc, ◌*◌, ◌≤◌, ◌<◌}
use native.Mathlib.Omega.{arith}
use lib.Dec.{leb}
use lib.ListN.{length, get_or, set}
use borrow.Author.Tests.{le-leb, lt-leb, not-true, not-false}
use Rattle.laws.specs.Plain.{pick}
use Rattle.laws.specs.Rows.{member, From, Rising, take_out}
use Rattle.laws.specs.Parts.{part, row_of}
use Rattle.laws.proofs.Bools.{by-test}
use Rattle.laws.proofs.Members.{put-length, take-length}
use Rattle.laws.proofs.Parts.{part_length}
use Rattle.sparse_vec.specs.Row.{put_row, CanInsert}
use Rattle.model.specs.Change.{set_row}
use Rattle.cells.specs.Cells.{RowKept, CanSet}

-- ---- the list, by the test v
module _ (slots : List ℕ) (at len k z : ℕ) (v : Bool) where
  pub insert-can : v ≡ true → CanSet slots at len k z v → CanInsert slots at len k z
  insert-can e can = record { row = can.row; more = rw e at can.room }

  pub list-told : (b : Bool) → v ≡ b → (r : ℕ) (new : List ℕ)
      → (r ≡ length (set_row b z (part slots at len))) × (new ≡ put_row slots at k (set_row b z (part slots at len)))
      → (r ≡ length (set_row v z (part slots at len))) × (new ≡ put_row slots at k (set_row v z (part slots at len)))
  list-told b e r new h = rw e h

-- ---- home row y
module _ (slots counts : List ℕ) (y k : ℕ) (kept : RowKept slots counts y k) where
  long : length (row_of slots counts k y) ≡ get_or counts y 0
  unfolding row_of
  long = part_length slots (y * k) (get_or counts y 0) (omega (arith, kept.row.fits, kept.row.room))

  rises : From 0 (row_of slots counts k y)
  unfolding row_of
  rises = kept.row.rising.rises

  pub row-rises : Rising (part slots (y * k) (get_or counts y 0))
  row-rises = kept.row.rising

  module _ (z : ℕ) (v : Bool) where
    -- taking out needs no room
    pub room_out : not v ≡ true → true ≡ leb (length (set_row v z (row_of slots counts k y))) k
    room_out e = rw (not-true v e) (sym (le-leb (length (take_out z (row_of slots counts k y))) k (omega (arith, take-length z (row_of slots counts k y), long, kept.row.room))))

    module _ (e : not v ≡ false) where
      put-long : length (set_row v z (row_of slots counts k y)) ≡ pick (member z (row_of slots counts k y)) (get_or counts y 0) (suc (get_or counts y 0))
      put-long = rw (not-false v e) (put-length z (row_of slots counts k y) 0 rises ∙ ap (λ n. pick (member z (row_of slots counts k y)) n (suc n)) long)

      pub room-left : get_or counts y 0 < k → true ≡ leb (length (set_row v z (row_of slots counts k y))) k
      room-left h = rw put-long (by-test (member z (row_of slots counts k y))
          (λ t. rw t (sym (le-leb (get_or counts y 0) k (omega arith))))
          (λ n. rw n (sym (le-leb (suc (get_or counts y 0)) k (omega arith)))))

      pub room-same : (r : Bool) → r ≡ member z (part slots (y * k) (get_or counts y 0)) → k ≤ get_or counts y 0
          → r ≡ leb (length (set_row v z (row_of slots counts k y))) k
      unfolding row_of
      room-same r h full = h ∙ rw put-long (by-test (member z (part slots (y * k) (get_or counts y 0)))
          (λ t. rw t (sym (le-leb (get_or counts y 0) k kept.row.room)))
          (λ n. rw n (sym (lt-leb (suc (get_or counts y 0)) k (omega arith)))))

    module _ (room : length (set_row v z (row_of slots counts k y)) ≤ k) where
      pub row-can : CanSet slots (y * k) (get_or counts y 0) k z v
      unfolding row_of
      row-can = record { row = kept.row; room = room }

      pub count_fits : (r : ℕ) → r ≡ length (set_row v z (part slots (y * k) (get_or counts y 0))) → r < 65536
      unfolding row_of
      count_fits r e = omega (arith, kept.low)

    pub row_told : (r : ℕ) (new : List ℕ)
        → (r ≡ length (set_row v z (part slots (y * k) (get_or counts y 0)))) × (new ≡ put_row slots (y * k) k (set_row v z (part slots (y * k) (get_or counts y 0))))
        → (new ≡ put_row slots (y * k) k (set_row v z (row_of slots counts k y))) × (set counts y r ≡ set counts y (length (set_row v z (row_of slots counts k y))))
    unfolding row_of
    row_told r new h = (h.1, ap (set counts y) h.0)
