-- The answers of insert, remove and the addition of one number; the answer of an addition, both ways, and the run after it. Assumes nothing.
use mathlib.Core.Path.{◌≡◌, sym, ap, ◌∙◌}
use mathlib.Core.Logic.{◌⊎◌, ⊎_elim}
use mathlib.Core.List.{List, [], ◌∷◌}
use Prim.Native.Nat.{ℕ, ◌+◌, ◌-◌, ◌≤◌, ◌<◌}
use native.Mathlib.Omega.{arith}
use lib.ListN.{length}
use borrow.Author.Tests.{le-leb, lt-leb}
use Rattle.laws.specs.Rows.{Rising, xor_merge, put_in, take_out}
use Rattle.laws.specs.Parts.{part}
use Rattle.laws.proofs.Numbers.{lt-or-le}
use Rattle.laws.proofs.Merge.{merge-from}
use Rattle.laws.proofs.Parts.{part_length}
use Rattle.sparse_vec.specs.Row.{find_of, rank, put_row, HasRow, CanAdd, row_sum, sum_in, added_to}
use Rattle.sparse_vec.specs.Passes.{insert_at, remove_at}
use Rattle.std.specs.Prelude.{Some, None, Ok, Err}
use Rattle.sparse_vec.proofs.Places.{row-wider, row_same, put-row, row_apart}
use Rattle.sparse_vec.proofs.Finding.{found_at, found-insert, rank-le}
use Rattle.sparse_vec.proofs.OneNumber.{insert-length, remove-length, rank-in, put-new, put-old, take-old, take_none, sum-in, sum-out}

-- ---- the answer of an addition
pub sum_done : (S W : List ℕ) (d cap : ℕ) (r : List ℕ) (n : ℕ) → n ≡ length r → length r ≤ cap → W ≡ put_row S d cap r
    → (Some n ≡ sum_in cap r) × (W ≡ added_to S d cap r)
unfolding sum_in added_to
sum_done S W d cap r n e h f = (rw (le-leb (length r) cap h, e), rw (le-leb (length r) cap h) f)

pub sum-full : (S : List ℕ) (d cap : ℕ) (r : List ℕ) → cap < length r → (None ≡ sum_in cap r) × (S ≡ added_to S d cap r)
unfolding sum_in added_to
sum-full S d cap r h = (rw (lt-leb (length r) cap h), rw (lt-leb (length r) cap h))

-- for callers: what an answer tells
pub done-is : (S : List ℕ) (d cap n : ℕ) (r : List ℕ) → Some n ≡ sum_in cap r → (n ≡ length r) × ((length r ≤ cap) × (added_to S d cap r ≡ put_row S d cap r))
unfolding sum_in added_to
done-is S d cap n r e = ⊎_elim
    (λ l. let f : Some n ≡ None = e ∙ rw (lt-leb (length r) cap l) in let z : ◌≡◌ {A = ℕ} 0 1 = cc in absurd (omega arith))
    (λ l. let f : Some n ≡ Some (length r) = e ∙ rw (le-leb (length r) cap l) in let g : n ≡ length r = cc in (g, (l, rw (le-leb (length r) cap l))))
    (lt-or-le cap (length r))

pub full_is : (S : List ℕ) (d cap : ℕ) (r : List ℕ) → None ≡ sum_in cap r → (cap < length r) × (added_to S d cap r ≡ S)
unfolding sum_in added_to
full_is S d cap r e = ⊎_elim
    (λ l. (l, rw (lt-leb (length r) cap l)))
    (λ l. let f : None ≡ Some (length r) = e ∙ rw (le-leb (length r) cap l) in let z : ◌≡◌ {A = ℕ} 0 1 = cc in absurd (omega arith))
    (lt-or-le cap (length r))

module _ (S : List ℕ) (d dl s sl cap : ℕ) (C : CanAdd S d dl s sl cap) where
  pub sum-rising : Rising (row_sum S d dl s sl)
  unfolding row_sum
  sum-rising = record { rises = merge-from 0 (part S d dl) (part S s sl) C.row.rising.rises C.source.rising.rises }

  -- after an accepted addition the stretch has the sum as its row
  pub added-row : length (row_sum S d dl s sl) ≤ cap
      → HasRow (added_to S d cap (row_sum S d dl s sl)) d (length (row_sum S d dl s sl)) cap
  unfolding added_to
  added-row h = rw (le-leb (length (row_sum S d dl s sl)) cap h) (put-row S d cap (row_sum S d dl s sl) C.row.fits h sum-rising)

  -- and after any a stretch that lies apart is as it was
  pub added-apart : (c n : ℕ) → (c + n ≤ d) ⊎ (d + cap ≤ c) → c + n ≤ length S → part (added_to S d cap (row_sum S d dl s sl)) c n ≡ part S c n
  unfolding added_to
  added-apart c n a g = ⊎_elim
      (λ h. rw (lt-leb (length (row_sum S d dl s sl)) cap h))
      (λ h. rw (le-leb (length (row_sum S d dl s sl)) cap h) (row_apart S d cap (row_sum S d dl s sl) C.row.fits h c n a g))
      (lt-or-le cap (length (row_sum S d dl s sl)))

-- ---- one number
module _ (S : List ℕ) (at len cap : ℕ) (H : HasRow S at len cap) (x i : ℕ) where
  long : length (part S at len) ≡ len
  long = part_length S at len (omega (arith, H.fits, H.room))

  pub at_in : Ok i ≡ find_of (part S at len) x → i < len
  at_in f = let g = found_at (part S at len) x i f in omega (arith, long, g.0, rank-in (part S at len) x g.1)

  pub insert-in : Err i ≡ find_of (part S at len) x → i ≤ len
  insert-in f = omega (arith, long, (found-insert (part S at len) x i f).0, rank-le (part S at len) x)

  -- the number is new
  new-long : Err i ≡ find_of (part S at len) x → length (put_in x (part S at len)) ≡ len + 1
  new-long f =
      let g = found-insert (part S at len) x i f in
      omega (arith, long, insert-length (rank (part S at len) x) x (part S at len) (rank-le (part S at len) x), ap length (put-new x (part S at len) g.1))

  new_row : (W : List ℕ) → Err i ≡ find_of (part S at len) x → len + 1 ≤ cap → W ≡ put_row S at (len + 1) (insert_at i x (part S at len))
      → W ≡ put_row S at cap (put_in x (part S at len))
  new_row W f h e =
      let g = found-insert (part S at len) x i f in
      e ∙ ap (λ (k : ℕ). put_row S at (len + 1) (insert_at k x (part S at len))) g.0
      ∙ ap (λ (r : List ℕ). put_row S at (len + 1) r) (put-new x (part S at len) g.1)
      ∙ row-wider S at len (len + 1) cap (put_in x (part S at len)) H (omega arith) h (omega (arith, new-long f))

  -- the number is there
  old-long : Ok i ≡ find_of (part S at len) x → length (take_out x (part S at len)) + 1 ≡ len
  old-long f =
      let g = found_at (part S at len) x i f in
      omega (
        arith,
        long,
        remove-length (rank (part S at len) x) (part S at len) (rank-in (part S at len) x g.1),
        ap length (take-old x (part S at len) 0 H.rising.rises g.1),
      )

  old_row : (W : List ℕ) → Ok i ≡ find_of (part S at len) x → W ≡ put_row S at len (remove_at i (part S at len))
      → W ≡ put_row S at cap (take_out x (part S at len))
  old_row W f e =
      let g = found_at (part S at len) x i f in
      e ∙ ap (λ (k : ℕ). put_row S at len (remove_at k (part S at len))) g.0
      ∙ ap (λ (r : List ℕ). put_row S at len r) (take-old x (part S at len) 0 H.rising.rises g.1)
      ∙ row-wider S at len len cap (take_out x (part S at len)) H (omega arith) H.room (omega (arith, old-long f))

  pub insert-old : Ok i ≡ find_of (part S at len) x
      → (len ≡ length (put_in x (part S at len))) × (S ≡ put_row S at cap (put_in x (part S at len)))
  insert-old f =
      let e : put_in x (part S at len) ≡ part S at len = put-old x (part S at len) 0 H.rising.rises (found_at (part S at len) x i f).1 in
      (sym long ∙ sym (ap length e), row_same S at len cap H ∙ sym (ap (λ (r : List ℕ). put_row S at cap r) e))

  pub insert-room : Err i ≡ find_of (part S at len) x → length (put_in x (part S at len)) ≤ cap → len < cap
  insert-room f m = omega (arith, new-long f)

  pub insert-new : (W : List ℕ) → Err i ≡ find_of (part S at len) x → length (put_in x (part S at len)) ≤ cap
      → W ≡ put_row S at (len + 1) (insert_at i x (part S at len))
      → (len + 1 ≡ length (put_in x (part S at len))) × (W ≡ put_row S at cap (put_in x (part S at len)))
  insert-new W f m e = (sym (new-long f), new_row W f (omega (arith, new-long f)) e)

  pub remove-old : (W : List ℕ) → Ok i ≡ find_of (part S at len) x → W ≡ put_row S at len (remove_at i (part S at len))
      → (len - 1 ≡ length (take_out x (part S at len))) × (W ≡ put_row S at cap (take_out x (part S at len)))
  remove-old W f e = (omega (arith, old-long f), old_row W f e)

  pub remove-none : Err i ≡ find_of (part S at len) x
      → (len ≡ length (take_out x (part S at len))) × (S ≡ put_row S at cap (take_out x (part S at len)))
  remove-none f =
      let e : take_out x (part S at len) ≡ part S at len = take_none x (part S at len) (found-insert (part S at len) x i f).1 in
      (sym long ∙ sym (ap length e), row_same S at len cap H ∙ sym (ap (λ (r : List ℕ). put_row S at cap r) e))

  -- the sum with a row of one number
  pub one_out : (W : List ℕ) → Ok i ≡ find_of (part S at len) x → W ≡ put_row S at len (remove_at i (part S at len))
      → (Some (len - 1) ≡ sum_in cap (xor_merge (part S at len) (x ∷ []))) × (W ≡ added_to S at cap (xor_merge (part S at len) (x ∷ [])))
  one_out W f e =
      rw (sum-out x (part S at len) 0 H.rising.rises (found_at (part S at len) x i f).1)
      (sum_done S W at cap (take_out x (part S at len)) (len - 1) (omega (arith, old-long f)) (omega (arith, old-long f, H.room)) (old_row W f e))

  pub one_in : (W : List ℕ) → Err i ≡ find_of (part S at len) x → len < cap → W ≡ put_row S at (len + 1) (insert_at i x (part S at len))
      → (Some (len + 1) ≡ sum_in cap (xor_merge (part S at len) (x ∷ []))) × (W ≡ added_to S at cap (xor_merge (part S at len) (x ∷ [])))
  one_in W f h e =
      rw (sum-in x (part S at len) (found-insert (part S at len) x i f).1)
      (sum_done S W at cap (put_in x (part S at len)) (len + 1) (sym (new-long f)) (omega (arith, new-long f)) (new_row W f (omega arith) e))

  pub one-full : Err i ≡ find_of (part S at len) x → len ≡ cap
      → (None ≡ sum_in cap (xor_merge (part S at len) (x ∷ []))) × (S ≡ added_to S at cap (xor_merge (part S at len) (x ∷ [])))
  one-full f h =
      rw (sum-in x (part S at len) (found-insert (part S at len) x i f).1)
      (sum-full S at cap (put_in x (part S at len)) (omega (arith, new-long f)))
