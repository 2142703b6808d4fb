-- One number put into a row or taken out, at the place that the search tells; and the sum with a row of one number. Assumes nothing.
use mathlib.Core.Path.{◌≡◌, refl, sym, ap, ◌∙◌}
use mathlib.Core.Logic.{⊎_elim}
use mathlib.Core.Bool.{true, false, false≢true}
use mathlib.Core.List.{List, [], ◌∷◌}
use Prim.Native.Nat.{ℕ, suc, ◌+◌, ◌-◌, ◌≤◌, ◌<◌}
use native.Mathlib.Omega.{arith}
use lib.Dec.{ltb, eqb}
use lib.ListN.{length, get_or, set, take, drop, length-append, length-take, length-drop, length-set, get_or-append}
use lib.Seq.{length-take-le, get_or_at, get_or-take, get_or-drop, get_or-set_same, get_or-set_other}
use borrow.Author.Tests.{lt-ltb, le-ltb, ltb-true, ltb-false, eqb-false, eq-eqb, ne_eqb}
use Rattle.laws.specs.Rows.{member, From, xor_merge, put_in, take_out}
use Rattle.laws.specs.Parts.{part, put_at}
use Rattle.laws.proofs.Bools.{by-test, not-both, or-first, or-second}
use Rattle.laws.proofs.Numbers.{lt-or-le, by_order}
use Rattle.laws.proofs.Members.{none_below}
use Rattle.laws.proofs.Merge.{merge-nil}
use Rattle.laws.proofs.Parts.{get_or-past, part_length, part_at, put-length, put-below, put-in, put-above}
use Rattle.sparse_vec.specs.Row.{rank, put_row}
use Rattle.sparse_vec.specs.Passes.{insert_at, remove_at}
use Rattle.lent.specs.Stretch.{CanMove}
use Rattle.sparse_vec.proofs.Places.{is_row}

-- ---- the list with x before place i, and the list without place i
module _ (i x : ℕ) (l : List ℕ) (h : i ≤ length l) where
  pub insert-length : length (insert_at i x l) ≡ length l + 1
  unfolding insert_at
  insert-length = simp (length-append, length-take, length-drop) (omega arith)

  insert-low : (k : ℕ) → k < i → get_or (insert_at i x l) k 0 ≡ get_or l k 0
  unfolding insert_at
  insert-low k o = get_or-append (take i l) (x ∷ drop i l) 0 k (omega (arith, length-take-le i l h)) ∙ get_or-take i l k 0 o

  insert-here : get_or (insert_at i x l) i 0 ≡ x
  unfolding insert_at
  insert-here = get_or_at (take i l) x (drop i l) 0 i (length-take-le i l h)

  insert-high : (q k : ℕ) → k ≡ suc q → i ≤ q → get_or (insert_at i x l) k 0 ≡ get_or l q 0
  unfolding insert_at
  insert-high q k e o =
      let z : i + (q - i) ≡ q = omega arith in
      get_or-past (take i l) (x ∷ drop i l) i (suc (q - i)) k 0 (length-take-le i l h) (omega arith)
      ∙ get_or-drop i l (q - i) 0 ∙ ap (λ (m : ℕ). get_or l m 0) z

module _ (i : ℕ) (l : List ℕ) (h : i < length l) where
  pub remove-length : length (remove_at i l) + 1 ≡ length l
  unfolding remove_at
  remove-length = simp (length-append, length-take, length-drop) (omega arith)

  remove-low : (k : ℕ) → k < i → get_or (remove_at i l) k 0 ≡ get_or l k 0
  unfolding remove_at
  remove-low k o = get_or-append (take i l) (drop (suc i) l) 0 k (omega (arith, length-take-le i l (omega arith))) ∙ get_or-take i l k 0 o

  remove-high : (k : ℕ) → i ≤ k → get_or (remove_at i l) k 0 ≡ get_or l (suc k) 0
  unfolding remove_at
  remove-high k o =
      let z : suc i + (k - i) ≡ suc k = omega arith in
      get_or-past (take i l) (drop (suc i) l) i (k - i) k 0 (length-take-le i l (omega arith)) (omega arith)
      ∙ get_or-drop (suc i) l (k - i) 0 ∙ ap (λ (m : ℕ). get_or l m 0) z

-- ---- what the two moves leave
pub insert-moved : (S T : List ℕ) (at len i x : ℕ) → i ≤ len → at + len < length S → T ≡ put_at S (at + i + 1) (part S (at + i) (len - i))
    → set T (at + i) x ≡ put_row S at (len + 1) (insert_at i x (part S at len))
insert-moved S T at len i x a f e =
    is_row S at (len + 1) (insert_at i x (part S at len)) (omega arith) (omega (arith, new-long)) (set T (at + i) x) (simp length-set t-long)
    (λ m h. other m (λ q. omega arith) ∙ low m (omega arith))
    (λ k h. by_order k i
    (λ o. other (at + k) (λ q. omega arith) ∙ low (at + k) (omega arith) ∙ sym (part_at S at len k (omega arith)) ∙ sym (insert-low i x (part S at len) in_row k o))
    (λ o. rw o (get_or-set_same T (at + i) x 0 (omega (arith, t-long)) ∙ sym (insert-here i x (part S at len) in_row)))
    (λ o. let q : suc (k - 1) ≡ k = omega arith in
    let to : at + i + 1 + (k - 1 - i) ≡ at + k = omega arith in
    let back : at + i + (k - 1 - i) ≡ at + (k - 1) = omega arith in
    let in-part : k - 1 - i < len - i = omega (arith, new-long) in
    other (at + k) (λ z. omega arith)
    ∙ (rw to at (t-at (at + i + 1 + (k - 1 - i)) ∙ put-in S (at + i + 1) (part S (at + i) (len - i)) put_fit (k - 1 - i) (omega (arith, long))))
    ∙ part_at S (at + i) (len - i) (k - 1 - i) in-part ∙ ap (λ (m : ℕ). get_or S m 0) back
    ∙ sym (part_at S at len (k - 1) (omega (arith, new-long))) ∙ sym (insert-high i x (part S at len) in_row (k - 1) k (sym q) (omega arith))))
    (λ k h g. absurd (omega (arith, new-long)))
    (λ m h. other m (λ q. omega arith) ∙ t-at m ∙ put-above S (at + i + 1) (part S (at + i) (len - i)) put_fit m (omega (arith, long)))
  where
    row-long : length (part S at len) ≡ len
    row-long = part_length S at len (omega arith)

    in_row : i ≤ length (part S at len)
    in_row = omega (arith, row-long)

    new-long : length (insert_at i x (part S at len)) ≡ len + 1
    new-long = omega (arith, row-long, insert-length i x (part S at len) in_row)

    long : length (part S (at + i) (len - i)) ≡ len - i
    long = part_length S (at + i) (len - i) (omega arith)

    put_fit : at + i + 1 + length (part S (at + i) (len - i)) ≤ length S
    put_fit = omega (arith, long)

    t-at : (m : ℕ) → get_or T m 0 ≡ get_or (put_at S (at + i + 1) (part S (at + i) (len - i))) m 0
    t-at m = ap (λ (l : List ℕ). get_or l m 0) e

    t-long : length T ≡ length S
    t-long = ap length e ∙ put-length S (at + i + 1) (part S (at + i) (len - i)) put_fit

    low : (m : ℕ) → m < at + i + 1 → get_or T m 0 ≡ get_or S m 0
    low m h = t-at m ∙ put-below S (at + i + 1) (part S (at + i) (len - i)) put_fit m h

    other : (m : ℕ) → (m ≡ at + i → ⊥) → get_or (set T (at + i) x) m 0 ≡ get_or T m 0
    other m h = get_or-set_other T (at + i) m x 0 h

pub remove-moved : (S T : List ℕ) (at len last i : ℕ) → i < len → at + len ≤ length S → len ≡ suc last → T ≡ put_at S (at + i) (part S (at + i + 1) (last - i))
    → set T (at + last) 0 ≡ put_row S at len (remove_at i (part S at len))
remove-moved S T at len last i a f n e =
    is_row S at len (remove_at i (part S at len)) f (omega (arith, new-long)) (set T (at + last) 0) (simp length-set t-long)
    (λ m h. other m (λ q. omega arith) ∙ t-at m ∙ put-below S (at + i) (part S (at + i + 1) (last - i)) put_fit m (omega arith))
    (λ k h. let k-in : k < last = omega (arith, new-long) in
    other (at + k) (λ q. omega arith) ∙ ⊎_elim
    (λ o. t-at (at + k) ∙ put-below S (at + i) (part S (at + i + 1) (last - i)) put_fit (at + k) (omega arith)
    ∙ sym (part_at S at len k (omega arith)) ∙ sym (remove-low i (part S at len) in_row k o))
    (λ o. let to : at + i + (k - i) ≡ at + k = omega arith in
    let back : at + i + 1 + (k - i) ≡ at + suc k = omega arith in
    (rw to at (t-at (at + i + (k - i)) ∙ put-in S (at + i) (part S (at + i + 1) (last - i)) put_fit (k - i) (omega (arith, long))))
    ∙ part_at S (at + i + 1) (last - i) (k - i) (omega arith) ∙ ap (λ (m : ℕ). get_or S m 0) back
    ∙ sym (part_at S at len (suc k) (omega arith)) ∙ sym (remove-high i (part S at len) in_row k o))
    (lt-or-le k i))
    (λ k h g. let z : k ≡ last = omega (arith, new-long) in rw z (get_or-set_same T (at + last) 0 0 (omega (arith, t-long))))
    (λ m h. other m (λ q. omega arith) ∙ t-at m ∙ put-above S (at + i) (part S (at + i + 1) (last - i)) put_fit m (omega (arith, long)))
  where
    row-long : length (part S at len) ≡ len
    row-long = part_length S at len f

    in_row : i < length (part S at len)
    in_row = omega (arith, row-long)

    new-long : length (remove_at i (part S at len)) ≡ last
    new-long = omega (arith, row-long, remove-length i (part S at len) in_row)

    long : length (part S (at + i + 1) (last - i)) ≡ last - i
    long = part_length S (at + i + 1) (last - i) (omega arith)

    put_fit : at + i + length (part S (at + i + 1) (last - i)) ≤ length S
    put_fit = omega (arith, long)

    t-at : (m : ℕ) → get_or T m 0 ≡ get_or (put_at S (at + i) (part S (at + i + 1) (last - i))) m 0
    t-at m = ap (λ (l : List ℕ). get_or l m 0) e

    t-long : length T ≡ length S
    t-long = ap length e ∙ put-length S (at + i) (part S (at + i + 1) (last - i)) put_fit

    other : (m : ℕ) → (m ≡ at + last → ⊥) → get_or (set T (at + last) 0) m 0 ≡ get_or T m 0
    other m h = get_or-set_other T (at + last) m 0 0 h

pub can-shift : (S : List ℕ) (at len last i : ℕ) → i < len → at + len ≤ length S → len ≡ suc last → CanMove S (at + i + 1) (at + i) (last - i)
can-shift S at len last i a f n = record { here = omega arith; there = omega arith }

-- ---- the place by rank is the right one
pub rank-in : (row : List ℕ) (x : ℕ) → member x row ≡ true → rank row x < length row
unfolding member rank
rank-in [] x m = absurd (false≢true m)
rank-in (y ∷ row) x m = by-test (ltb y x)
    (λ t. rw t (omega (arith, rank-in row x (rw (ne_eqb x y (λ q. omega (arith, ltb-true y x t))) at m))))
    (λ n. rw n (omega arith))

pub put-new : (x : ℕ) (row : List ℕ) → member x row ≡ false → insert_at (rank row x) x row ≡ put_in x row
unfolding member rank insert_at put_in
put-new x [] m = refl
put-new x (y ∷ row) m = by-test (ltb y x)
    (λ t. rw (t, le-ltb x y (omega (arith, ltb-true y x t)), ← put-new x row (or-second (eqb x y) (member x row) m)))
    (λ n. let ne : x ≡ y → ⊥ = eqb-false x y (or-first (eqb x y) (member x row) m) in
    rw (n, lt-ltb x y (omega (arith, ltb-false y x n))))

pub put-old : (x : ℕ) (row : List ℕ) (b : ℕ) → From b row → member x row ≡ true → put_in x row ≡ row
unfolding member put_in
put-old x [] b r m = absurd (false≢true m)
put-old x (y ∷ row) b r m = by_order x y
    (λ h. not-both (rw (ne_eqb x y (λ q. omega arith)) at m) (none_below (suc y) x row r.1 (omega arith)))
    (λ h. rw (le-ltb x y (omega arith), le-ltb y x (omega arith)))
    (λ h. rw (le-ltb x y (omega arith), lt-ltb y x h, put-old x row (suc y) r.1 (rw (ne_eqb x y (λ q. omega arith)) at m)))

pub take-old : (x : ℕ) (row : List ℕ) (b : ℕ) → From b row → member x row ≡ true → remove_at (rank row x) row ≡ take_out x row
unfolding member rank remove_at take_out
take-old x [] b r m = absurd (false≢true m)
take-old x (y ∷ row) b r m = by_order x y
    (λ h. not-both (rw (ne_eqb x y (λ q. omega arith)) at m) (none_below (suc y) x row r.1 (omega arith)))
    (λ h. rw (eq-eqb x y h, le-ltb y x (omega arith)))
    (λ h. rw (ne_eqb x y (λ q. omega arith), lt-ltb y x h, ← take-old x row (suc y) r.1 (rw (ne_eqb x y (λ q. omega arith)) at m)))

pub take_none : (x : ℕ) (row : List ℕ) → member x row ≡ false → take_out x row ≡ row
unfolding member take_out
take_none x [] m = refl
take_none x (y ∷ row) m = rw (or-first (eqb x y) (member x row) m, take_none x row (or-second (eqb x y) (member x row) m))

-- the sum with a row of one number
pub sum-in : (x : ℕ) (row : List ℕ) → member x row ≡ false → xor_merge row (x ∷ []) ≡ put_in x row
unfolding member put_in xor_merge
sum-in x [] m = refl
sum-in x (y ∷ row) m = by_order x y
    (λ h. rw (lt-ltb x y h, le-ltb y x (omega arith)))
    (λ h. not-both (eq-eqb x y h) (or-first (eqb x y) (member x row) m))
    (λ h. rw (le-ltb x y (omega arith), lt-ltb y x h, sum-in x row (or-second (eqb x y) (member x row) m)))

pub sum-out : (x : ℕ) (row : List ℕ) (b : ℕ) → From b row → member x row ≡ true → xor_merge row (x ∷ []) ≡ take_out x row
unfolding member take_out xor_merge
sum-out x [] b r m = absurd (false≢true m)
sum-out x (y ∷ row) b r m = by_order x y
    (λ h. not-both (rw (ne_eqb x y (λ q. omega arith)) at m) (none_below (suc y) x row r.1 (omega arith)))
    (λ h. rw (le-ltb x y (omega arith), le-ltb y x (omega arith), eq-eqb x y h) (merge-nil row))
    (λ h. let ne : eqb x y ≡ false = ne_eqb x y (λ q. omega arith) in
    rw (lt-ltb y x h, ne, sum-out x row (suc y) r.1 (rw ne at m)))
