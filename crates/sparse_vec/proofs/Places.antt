-- A stretch that is put, place by place; a row put into its stretch, and what holds of the run after it. Assumes nothing.
use mathlib.Core.Path.{◌≡◌, refl, sym, ◌∙◌}
use mathlib.Core.Logic.{◌⊎◌, ⊎_elim}
use mathlib.Core.List.{List, ◌++◌}
use Prim.Native.Nat.{ℕ, ◌+◌, ◌-◌, ◌≤◌, ◌<◌}
use native.Mathlib.Omega.{arith}
use lib.ListN.{length, get_or, take, drop, length-append, length-drop, get_or-append}
use lib.Seq.{ext_get_or, length-take-le, get_or-take, get_or-drop}
use Rattle.laws.specs.Rows.{Rising}
use Rattle.laws.specs.Parts.{part, put_at, pad_to}
use Rattle.laws.proofs.Numbers.{lt-or-le}
use Rattle.laws.proofs.Parts.{get_or-past, pad-length, pad-low, pad-high, pad-take, part_length, part_at, put-length, put-below, put-in, put-above, put-part, part_apart, put_same}
use Rattle.sparse_vec.specs.Row.{put_row, HasRow}

-- two runs that differ within the stretch only become one by a put
pub put-outside : (S T : List ℕ) (b : ℕ) (r : List ℕ) → b + length r ≤ length S → length T ≡ length S
    → ((m : ℕ) → m < b → get_or T m 0 ≡ get_or S m 0) → ((m : ℕ) → b + length r ≤ m → get_or T m 0 ≡ get_or S m 0) → put_at T b r ≡ put_at S b r
unfolding put_at
put-outside S T b r fit e low high =
    let t : length (take b T) ≡ b = length-take-le b T (omega arith) in
    let front : take b T ≡ take b S =
    ext_get_or 0 (take b T) (take b S) (t ∙ sym (length-take-le b S (omega arith)))
    (λ k h. get_or-take b T k 0 (omega arith) ∙ low k (omega arith) ∙ sym (get_or-take b S k 0 (omega arith))) in
    let back : drop (b + length r) T ≡ drop (b + length r) S =
    ext_get_or 0 (drop (b + length r) T) (drop (b + length r) S) (simp length-drop (omega arith))
    (λ k h. get_or-drop (b + length r) T k 0 ∙ high (b + length r + k) (omega arith) ∙ sym (get_or-drop (b + length r) S k 0)) in
    rw (front, back)

-- a run that has r in the stretch, and is S elsewhere
pub is-put : (S T : List ℕ) (b : ℕ) (r : List ℕ) → b + length r ≤ length S → length T ≡ length S
    → ((m : ℕ) → m < b → get_or T m 0 ≡ get_or S m 0) → ((k : ℕ) → k < length r → get_or T (b + k) 0 ≡ get_or r k 0)
    → ((m : ℕ) → b + length r ≤ m → get_or T m 0 ≡ get_or S m 0) → T ≡ put_at S b r
is-put S T b r fit e low mid high =
    let l : length (part T b (length r)) ≡ length r = part_length T b (length r) (omega arith) in
    let has : r ≡ part T b (length r) =
    sym (ext_get_or 0 (part T b (length r)) r l (λ k h. part_at T b (length r) k (omega arith) ∙ mid k (omega arith))) in
    sym (put_same T b r (omega arith) has) ∙ put-outside S T b r fit e low high

-- a stretch, and the one right after it
pub put-join : (S : List ℕ) (b : ℕ) (r t : List ℕ) (c : ℕ) → c ≡ b + length r → b + (length r + length t) ≤ length S
    → put_at (put_at S b r) c t ≡ put_at S b (r ++ t)
put-join S b r t c e fit =
    is-put S (put_at (put_at S b r) c t) b (r ++ t) (omega (arith, length-append r t)) (two-long ∙ put-length S b r (omega arith))
    (λ m h. put-below (put_at S b r) c t two-fit m (omega arith) ∙ put-below S b r (omega arith) m h)
    (λ k h. ⊎_elim
    (λ l. put-below (put_at S b r) c t two-fit (b + k) (omega arith) ∙ put-in S b r (omega arith) k l ∙ sym (first k l))
    (λ l. let at : c + (k - length r) ≡ b + k = omega arith in
    let in-t : k - length r < length t = omega (arith, length-append r t) in
    (rw at at (put-in (put_at S b r) c t two-fit (k - length r) in-t)) ∙ sym (second k l))
    (lt-or-le k (length r)))
    (λ m h. put-above (put_at S b r) c t two-fit m (omega (arith, length-append r t)) ∙ put-above S b r (omega arith) m (omega (arith, length-append r t)))
  where
    two-fit : c + length t ≤ length (put_at S b r)
    two-fit = omega (arith, put-length S b r (omega arith))

    two-long : length (put_at (put_at S b r) c t) ≡ length (put_at S b r)
    two-long = put-length (put_at S b r) c t two-fit

    first : (k : ℕ) → k < length r → get_or (r ++ t) k 0 ≡ get_or r k 0
    first k l = get_or-append r t 0 k l

    second : (k : ℕ) → length r ≤ k → get_or (r ++ t) k 0 ≡ get_or t (k - length r) 0
    second k l = get_or-past r t (length r) (k - length r) k 0 refl (omega arith)

-- ---- a row in its stretch
module _ (S : List ℕ) (at cap : ℕ) (r : List ℕ) (fit : at + cap ≤ length S) (room : length r ≤ cap) where
  long : length (pad_to cap r) ≡ cap
  long = pad-length cap r room

  padded : at + length (pad_to cap r) ≤ length S
  padded = omega (arith, long)

  pub row-length : length (put_row S at cap r) ≡ length S
  unfolding put_row
  row-length = put-length S at (pad_to cap r) padded

  pub row_below : (m : ℕ) → m < at → get_or (put_row S at cap r) m 0 ≡ get_or S m 0
  unfolding put_row
  row_below m h = put-below S at (pad_to cap r) padded m h

  pub row-above : (m : ℕ) → at + cap ≤ m → get_or (put_row S at cap r) m 0 ≡ get_or S m 0
  unfolding put_row
  row-above m h = put-above S at (pad_to cap r) padded m (omega (arith, long))

  pub row_in : (k : ℕ) → k < length r → get_or (put_row S at cap r) (at + k) 0 ≡ get_or r k 0
  unfolding put_row
  row_in k h = put-in S at (pad_to cap r) padded k (omega (arith, long)) ∙ pad-low cap r k h

  pub row-unused : (k : ℕ) → length r ≤ k → k < cap → get_or (put_row S at cap r) (at + k) 0 ≡ 0
  unfolding put_row
  row-unused k h l = put-in S at (pad_to cap r) padded k (omega (arith, long)) ∙ pad-high cap r k h

  -- the stretch reads as the row again
  pub row-part : part (put_row S at cap r) at (length r) ≡ r
  unfolding put_row
  row-part = put-part S at (pad_to cap r) padded (length r) (omega (arith, long)) ∙ pad-take cap r

  -- and a stretch that lies apart is as it was
  pub row_apart : (c n : ℕ) → (c + n ≤ at) ⊎ (at + cap ≤ c) → c + n ≤ length S → part (put_row S at cap r) c n ≡ part S c n
  unfolding put_row
  row_apart c n a g = part_apart S at (pad_to cap r) padded c n (rw long a) g

  -- a row that is put stands there
  pub put-row : Rising r → HasRow (put_row S at cap r) at (length r) cap
  put-row up = record { fits = omega (arith, row-length); room = room; rising = rw row-part up; unused = row-unused }

  -- a run that has the row in the stretch, zeros after it, and is S elsewhere
  pub is_row : (T : List ℕ) → length T ≡ length S → ((m : ℕ) → m < at → get_or T m 0 ≡ get_or S m 0)
      → ((k : ℕ) → k < length r → get_or T (at + k) 0 ≡ get_or r k 0) → ((k : ℕ) → length r ≤ k → k < cap → get_or T (at + k) 0 ≡ 0)
      → ((m : ℕ) → at + cap ≤ m → get_or T m 0 ≡ get_or S m 0) → T ≡ put_row S at cap r
  unfolding put_row
  is_row T e low mid empty high =
      is-put S T at (pad_to cap r) padded e low
      (λ k h. ⊎_elim
      (λ l. mid k l ∙ sym (pad-low cap r k l))
      (λ l. empty k l (omega (arith, long)) ∙ sym (pad-high cap r k l))
      (lt-or-le k (length r)))
      (λ m h. high m (omega (arith, long)))

-- the unused places of a row are zero: a row of any length that fits m of them fits all
pub row-wider : (S : List ℕ) (at len m cap : ℕ) (r : List ℕ) → HasRow S at len cap → len ≤ m → m ≤ cap → length r ≤ m
    → put_row S at m r ≡ put_row S at cap r
row-wider S at len m cap r H a b c =
    is_row S at cap r H.fits (omega arith) (put_row S at m r) (row-length S at m r fit c) (row_below S at m r fit c) (row_in S at m r fit c)
    (λ k h l. ⊎_elim
    (λ o. row-unused S at m r fit c k h o)
    (λ o. row-above S at m r fit c (at + k) (omega arith) ∙ H.unused k (omega arith) l)
    (lt-or-le k m))
    (λ i h. row-above S at m r fit c i (omega arith))
  where
    fit : at + m ≤ length S
    fit = omega (arith, H.fits)

-- a row put as it is changes nothing
pub row_same : (S : List ℕ) (at len cap : ℕ) → HasRow S at len cap → S ≡ put_row S at cap (part S at len)
row_same S at len cap H =
    is_row S at cap (part S at len) H.fits (omega (arith, l, H.room)) S refl (λ m h. refl)
    (λ k h. sym (part_at S at len k (omega (arith, l)))) (λ k h g. H.unused k (omega (arith, l)) g) (λ m h. refl)
  where
    l : length (part S at len) ≡ len
    l = part_length S at len (omega (arith, H.fits, H.room))
