-- The one pass that merges two rows to the left, and what follows it. Assumes nothing.
use mathlib.Core.Path.{◌≡◌, refl, sym, ap, ◌∙◌}
use mathlib.Core.Logic.{◌⊎◌, inl, inr, ⊎_elim}
use mathlib.Core.Bool.{not}
use mathlib.Core.List.{List, ◌∷◌, ◌++◌}
use Prim.Native.Nat.{ℕ, suc, min, ◌+◌, ◌-◌, ◌≤◌, ◌<◌}
use native.Mathlib.Omega.{arith}
use lib.Dec.{leb, eqb}
use lib.ListN.{length, get_or, set, take, drop, length-append, length-set, length-drop, take-append-drop}
use lib.Seq.{ext_get_or, length-take-le, take_all, get_or-take, get_or-drop, get_or-set_same, get_or-set_other}
use mir.Val.{bool_byte}
use Rattle.laws.specs.Rows.{xor_merge}
use Rattle.laws.specs.Parts.{part, put_at, pad_to, zeros}
use Rattle.laws.proofs.Numbers.{lt-or-le}
use Rattle.laws.proofs.Merge.{merge-length}
use Rattle.laws.proofs.Parts.{zeros-length, pad-length, part_length, part_at, put-length, put-below, put-above, put-part, part_apart, put_same}
use Rattle.sparse_vec.specs.Row.{put_row, row_sum}
use Rattle.sparse_vec.specs.Passes.{CanBring, CanMerge, Merging, Merged}
use Rattle.lent.specs.Stretch.{Stretch}
use Rattle.sparse_vec.proofs.Places.{put-outside, put-join, row-length}
use Rattle.sparse_vec.proofs.Steps.{at_lt, at-gt, at-eq, at_rest, rest_more, rest-head, rest-tail, by_tests}

module _ (S : List ℕ) (d dl s sl : ℕ) (P : CanMerge S d dl s sl) where
  pub merging_start : Merging S S d dl s sl 0 0 0
  unfolding row_sum
  merging_start = record {
    i-le = omega arith;
    j-le = omega arith;
    n-le = omega arith;
    n-in = omega arith;
    same = refl;
    done = λ k l. absurd (omega arith);
    left = λ k l h. refl;
    below = λ m l. refl;
    above = λ m l. refl;
    rest = refl;
  }

  d-long : length (part S (d + sl) dl) ≡ dl
  d-long = part_length S (d + sl) dl (omega arith)

  s-long : length (part S s sl) ≡ sl
  s-long = part_length S s sl P.fit-s

  sum-long : length (row_sum S (d + sl) dl s sl) ≤ dl + sl
  unfolding row_sum
  sum-long = omega (arith, merge-length (part S (d + sl) dl) (part S s sl), d-long, s-long)

  module _ (T : List ℕ) (i j n : ℕ) (H : Merging S T d dl s sl i j n) where
    -- the numbers that the turn compares
    read-d : (k : ℕ) → i ≤ k → k < dl → get_or T (d + sl + k) 0 ≡ get_or (part S (d + sl) dl) k 0
    read-d k l h = H.left k l h ∙ sym (part_at S (d + sl) dl k h)

    read-s : (k : ℕ) → k < sl → get_or T (s + k) 0 ≡ get_or (part S s sl) k 0
    read-s k h =
        ⊎_elim (λ l. H.above (s + k) (omega arith)) (λ l. H.below (s + k) (omega arith)) P.apart
        ∙ sym (part_at S s sl k h)

    module _ (p : i < dl) (q : j < sl) (y : ℕ) where
      other : (m : ℕ) → (m ≡ d + n → ⊥) → get_or (set T (d + n) y) m 0 ≡ get_or T m 0
      other m h = get_or-set_other T (d + n) m y 0 h

      -- y is the next number of the sum
      keep : (i' j' : ℕ) → i ≤ i' → i' ≤ dl → j' ≤ sl → suc n ≤ i' + j'
          → xor_merge (drop i (part S (d + sl) dl)) (drop j (part S s sl)) ≡ y ∷ xor_merge (drop i' (part S (d + sl) dl)) (drop j' (part S s sl))
          → Merging S (set T (d + n) y) d dl s sl i' j' (n + 1)
      keep i' j' a b c e g =
          let r : drop n (row_sum S (d + sl) dl s sl) ≡ y ∷ xor_merge (drop i' (part S (d + sl) dl)) (drop j' (part S s sl)) = H.rest ∙ g in
          record {
            i-le = b;
            j-le = c;
            n-le = omega arith;
            n-in = omega (arith, rest_more (row_sum S (d + sl) dl s sl) n _ _ r);
            same = simp length-set H.same;
            done = λ k l. ⊎_elim
                (λ o. other (d + k) (λ z. omega arith) ∙ H.done k o)
                (λ o. let z : k ≡ n = omega arith in
                rw z (get_or-set_same T (d + n) y 0 (omega (arith, H.same)) ∙ sym (rest-head (row_sum S (d + sl) dl s sl) n _ _ r)))
                (lt-or-le k n);
            left = λ k l h. other (d + sl + k) (λ z. omega (arith, H.n-le)) ∙ H.left k (omega arith) h;
            below = λ m l. other m (λ z. omega arith) ∙ H.below m l;
            above = λ m l. other m (λ z. omega (arith, H.n-le)) ∙ H.above m l;
            rest = rest-tail (row_sum S (d + sl) dl s sl) n _ _ r;
          }

      -- two equal numbers go, and y is written over later
      skip : get_or (part S (d + sl) dl) i 0 ≡ get_or (part S s sl) j 0 → Merging S (set T (d + n) y) d dl s sl (i + 1) (j + 1) n
      skip e = record {
        i-le = omega arith;
        j-le = omega arith;
        n-le = omega (arith, H.n-le);
        n-in = H.n-in;
        same = simp length-set H.same;
        done = λ k l. other (d + k) (λ z. omega arith) ∙ H.done k l;
        left = λ k l h. other (d + sl + k) (λ z. omega (arith, H.n-le)) ∙ H.left k (omega arith) h;
        below = λ m l. other m (λ z. omega arith) ∙ H.below m l;
        above = λ m l. other m (λ z. omega (arith, H.n-le)) ∙ H.above m l;
        rest = H.rest ∙ at-eq (part S (d + sl) dl) (part S s sl) i j (omega (arith, d-long)) (omega (arith, s-long)) e;
      }

    pub merging-more : i < dl → j < sl → (x y z : ℕ) → x ≡ get_or T (d + sl + i) 0 → y ≡ get_or T (s + j) 0 → z ≡ min y x
        → Merging S (set T (d + n) z) d dl s sl (i + bool_byte (leb x y)) (j + bool_byte (leb y x)) (n + bool_byte (not (eqb x y)))
    merging-more p q x y z ex ey ez =
        by_tests x y (λ u v w. Merging S (set T (d + n) z) d dl s sl (i + v) (j + w) (n + u))
        (λ h. let zx : z ≡ x = omega arith in
        rw (j0, zx) (keep p q x (i + 1) j (omega arith) (omega arith) (omega arith) (omega (arith, H.n-le))
        (at_lt (part S (d + sl) dl) (part S s sl) i j pi qj (omega (arith, xd, ys)) ∙ ap (λ (k : ℕ). k ∷ xor_merge (drop (i + 1) (part S (d + sl) dl)) (drop j (part S s sl))) (sym xd))))
        (λ h. rw n0 (skip p q z (sym xd ∙ h ∙ ys)))
        (λ h. let zy : z ≡ y = omega arith in
        rw (i0, zy) (keep p q y i (j + 1) (omega arith) (omega arith) (omega arith) (omega (arith, H.n-le))
        (at-gt (part S (d + sl) dl) (part S s sl) i j pi qj (omega (arith, xd, ys)) ∙ ap (λ (k : ℕ). k ∷ xor_merge (drop i (part S (d + sl) dl)) (drop (j + 1) (part S s sl))) (sym ys))))
      where
        i0 : i + 0 ≡ i
        i0 = omega arith

        j0 : j + 0 ≡ j
        j0 = omega arith

        n0 : n + 0 ≡ n
        n0 = omega arith

        xd : x ≡ get_or (part S (d + sl) dl) i 0
        xd = ex ∙ read-d i (omega arith) p

        ys : y ≡ get_or (part S s sl) j 0
        ys = ey ∙ read-s j q

        pi : i < length (part S (d + sl) dl)
        pi = omega (arith, d-long)

        qj : j < length (part S s sl)
        qj = omega (arith, s-long)

    pub merging-done : (dl ≤ i) ⊎ (sl ≤ j) → Merged S T d dl s sl i j n
    merging-done o = record { so_far = H; used-up = o }

  -- ---- what is left of the two rows follows, then zeros
  module _ (T : List ℕ) (i j n : ℕ) (M : Merged S T d dl s sl i j n) where
    H : Merging S T d dl s sl i j n
    H = M.so_far

    pub follow-d : CanBring T (d + n) (d + sl + i) (dl - i)
    follow-d = record {
      fit-to = omega (arith, H.same, H.n-le, H.i-le, H.j-le);
      fit-from = omega (arith, H.same, H.i-le);
      order = inl (omega (arith, H.n-le, H.j-le));
    }

    d-rest : part T (d + sl + i) (dl - i) ≡ drop i (part S (d + sl) dl)
    d-rest =
        let l : length (part T (d + sl + i) (dl - i)) ≡ dl - i = part_length T (d + sl + i) (dl - i) follow-d.fit-from in
        ext_get_or 0 (part T (d + sl + i) (dl - i)) (drop i (part S (d + sl) dl)) (l ∙ simp length-drop (omega (arith, d-long)))
        (λ k h. let at : d + sl + i + k ≡ d + sl + (i + k) = omega arith in
        part_at T (d + sl + i) (dl - i) k (omega arith) ∙ ap (λ (m : ℕ). get_or T m 0) at
        ∙ read-d T i j n H (i + k) (omega arith) (omega (arith, H.i-le)) ∙ sym (get_or-drop i (part S (d + sl) dl) k 0))

    module _ (U : List ℕ) (u : U ≡ put_at T (d + n) (part T (d + sl + i) (dl - i))) where
      d-more : length (part T (d + sl + i) (dl - i)) ≡ dl - i
      d-more = part_length T (d + sl + i) (dl - i) follow-d.fit-from

      d-fit : d + n + length (part T (d + sl + i) (dl - i)) ≤ length T
      d-fit = omega (arith, d-more, follow-d.fit-to)

      u-long : length U ≡ length S
      u-long = ap length u ∙ put-length T (d + n) (part T (d + sl + i) (dl - i)) d-fit ∙ H.same

      pub follow-s : CanBring U (d + n + (dl - i)) (s + j) (sl - j)
      follow-s = record {
        fit-to = omega (arith, u-long, H.n-le, H.i-le, H.j-le);
        fit-from = omega (arith, u-long, H.j-le, P.fit-s);
        order = ⊎_elim (λ o. inl (omega (arith, H.n-le, H.i-le, H.j-le))) (λ o. inr (omega (arith, H.j-le))) P.apart;
      }

      s-more : length (part U (s + j) (sl - j)) ≡ sl - j
      s-more = part_length U (s + j) (sl - j) follow-s.fit-from

      s-rest : part U (s + j) (sl - j) ≡ drop j (part S s sl)
      s-rest =
          ext_get_or 0 (part U (s + j) (sl - j)) (drop j (part S s sl)) (s-more ∙ simp length-drop (omega (arith, s-long)))
          (λ k h. let at : s + j + k ≡ s + (j + k) = omega arith in
          part_at U (s + j) (sl - j) k (omega (arith, s-more)) ∙ ap (λ (m : ℕ). get_or U m 0) at ∙ ap (λ (l : List ℕ). get_or l (s + (j + k)) 0) u
          ∙ ⊎_elim
          (λ o. put-above T (d + n) (part T (d + sl + i) (dl - i)) d-fit (s + (j + k)) (omega (arith, d-more, H.n-le, H.i-le, H.j-le)))
          (λ o. put-below T (d + n) (part T (d + sl + i) (dl - i)) d-fit (s + (j + k)) (omega (arith, s-more, H.j-le)))
          P.apart
          ∙ read-s T i j n H (j + k) (omega (arith, s-more, H.j-le)) ∙ sym (get_or-drop j (part S s sl) k 0))

      rests : drop n (row_sum S (d + sl) dl s sl) ≡ part T (d + sl + i) (dl - i) ++ part U (s + j) (sl - j)
      rests =
          H.rest ∙ at_rest (part S (d + sl) dl) (part S s sl) i j (⊎_elim (λ o. inl (omega (arith, d-long))) (λ o. inr (omega (arith, s-long))) M.used-up)
          ∙ rw (d-rest, s-rest)

      -- all numbers of the sum are found
      pub merged-count : n + (dl - i) + (sl - j) ≡ length (row_sum S (d + sl) dl s sl)
      merged-count = omega (
        arith,
        H.n-in,
        d-more,
        s-more,
        ap length rests,
        length-append (part T (d + sl + i) (dl - i)) (part U (s + j) (sl - j)),
        length-drop n (row_sum S (d + sl) dl s sl),
      )

      module _ (Q : List ℕ) (v : Q ≡ put_at U (d + n + (dl - i)) (part U (s + j) (sl - j))) where
        s-fit : d + n + (dl - i) + length (part U (s + j) (sl - j)) ≤ length U
        s-fit = omega (arith, s-more, follow-s.fit-to)

        v-long : length Q ≡ length S
        v-long = ap length v ∙ put-length U (d + n + (dl - i)) (part U (s + j) (sl - j)) s-fit ∙ u-long

        pub merged-clear : (m : ℕ) → m ≡ n + (dl - i) + (sl - j) → Stretch Q (d + m) (d + dl + sl)
        merged-clear m e = record { in_order = omega (arith, H.n-le, H.i-le, H.j-le); in-it = omega (arith, v-long) }

        v-is : Q ≡ put_at T (d + n) (drop n (row_sum S (d + sl) dl s sl))
        v-is =
            v ∙ ap (λ (l : List ℕ). put_at l (d + n + (dl - i)) (part U (s + j) (sl - j))) u
            ∙ put-join T (d + n) (part T (d + sl + i) (dl - i)) (part U (s + j) (sl - j)) (d + n + (dl - i)) (omega (arith, d-more)) (omega (arith, d-more, s-more, follow-s.fit-to, u-long, H.same))
            ∙ ap (λ (l : List ℕ). put_at T (d + n) l) (sym rests)

        front : T ≡ put_at T d (take n (row_sum S (d + sl) dl s sl))
        front =
            let l : length (take n (row_sum S (d + sl) dl s sl)) ≡ n = length-take-le n (row_sum S (d + sl) dl s sl) H.n-in in
            let pl : length (part T d n) ≡ n = part_length T d n (omega (arith, H.same, H.n-le, H.i-le, H.j-le)) in
            let here : take n (row_sum S (d + sl) dl s sl) ≡ part T d n =
            ext_get_or 0 (take n (row_sum S (d + sl) dl s sl)) (part T d n) (l ∙ sym pl)
            (λ k h. get_or-take n (row_sum S (d + sl) dl s sl) k 0 (omega arith) ∙ sym (H.done k (omega arith)) ∙ sym (part_at T d n k (omega arith))) in
            sym (put_same T d (take n (row_sum S (d + sl) dl s sl)) (omega (arith, H.same, H.n-le, H.i-le, H.j-le)) (rw l here))

        v-whole : Q ≡ put_at T d (row_sum S (d + sl) dl s sl)
        v-whole =
            let l : length (take n (row_sum S (d + sl) dl s sl)) ≡ n = length-take-le n (row_sum S (d + sl) dl s sl) H.n-in in
            v-is ∙ ap (λ (t : List ℕ). put_at t (d + n) (drop n (row_sum S (d + sl) dl s sl))) front
            ∙ put-join T d (take n (row_sum S (d + sl) dl s sl)) (drop n (row_sum S (d + sl) dl s sl)) (d + n) (omega arith)
            (omega (arith, length-drop n (row_sum S (d + sl) dl s sl), sum-long, H.same, H.n-in))
            ∙ ap (λ (t : List ℕ). put_at T d t) (take-append-drop n (row_sum S (d + sl) dl s sl))

        pub merged-row : (m : ℕ) (W : List ℕ) → m ≡ n + (dl - i) + (sl - j) → W ≡ put_at Q (d + m) (zeros (d + dl + sl - (d + m)))
            → W ≡ put_row S d (dl + sl) (row_sum S (d + sl) dl s sl)
        unfolding put_row pad_to
        merged-row m W e w =
            let all : m ≡ length (row_sum S (d + sl) dl s sl) = e ∙ merged-count in
            let z : d + dl + sl - (d + m) ≡ dl + sl - length (row_sum S (d + sl) dl s sl) = omega arith in
            let zl : length (zeros (dl + sl - length (row_sum S (d + sl) dl s sl))) ≡ dl + sl - length (row_sum S (d + sl) dl s sl) = zeros-length (dl + sl - length (row_sum S (d + sl) dl s sl)) in
            let whole : length (row_sum S (d + sl) dl s sl ++ zeros (dl + sl - length (row_sum S (d + sl) dl s sl))) ≡ dl + sl =
            length-append (row_sum S (d + sl) dl s sl) (zeros (dl + sl - length (row_sum S (d + sl) dl s sl))) ∙ omega (arith, zl, sum-long) in
            w ∙ ap (λ (k : ℕ). put_at Q (d + m) (zeros k)) z
            ∙ ap (λ (t : List ℕ). put_at t (d + m) (zeros (dl + sl - length (row_sum S (d + sl) dl s sl)))) v-whole
            ∙ put-join T d (row_sum S (d + sl) dl s sl) (zeros (dl + sl - length (row_sum S (d + sl) dl s sl))) (d + m) (omega arith) (omega (arith, zl, sum-long, H.same))
            ∙ put-outside S T d (row_sum S (d + sl) dl s sl ++ zeros (dl + sl - length (row_sum S (d + sl) dl s sl))) (omega (arith, whole)) H.same
            H.below (λ k h. H.above k (omega (arith, whole)))

-- ---- the row moved to the right first
module _ (S : List ℕ) (d dl s sl : ℕ) (P : CanMerge S d dl s sl) (T : List ℕ) (t : T ≡ put_at S (d + sl) (part S d dl)) where
  p-long : length (part S d dl) ≡ dl
  p-long = part_length S d dl (omega (arith, P.fit-d))

  p-fit : d + sl + length (part S d dl) ≤ length S
  p-fit = omega (arith, p-long, P.fit-d)

  t-long : length T ≡ length S
  t-long = ap length t ∙ put-length S (d + sl) (part S d dl) p-fit

  pub moved-can : CanMerge T d dl s sl
  moved-can = record { fit-d = omega (arith, t-long, P.fit-d); fit-s = omega (arith, t-long, P.fit-s); apart = P.apart }

  pub moved_sum : row_sum T (d + sl) dl s sl ≡ row_sum S d dl s sl
  unfolding row_sum
  moved_sum =
      let there : part T (d + sl) dl ≡ part S d dl =
      ap (λ (l : List ℕ). part l (d + sl) dl) t ∙ put-part S (d + sl) (part S d dl) p-fit dl (omega (arith, p-long)) ∙ take_all dl (part S d dl) (omega (arith, p-long)) in
      let kept : part T s sl ≡ part S s sl =
      ap (λ (l : List ℕ). part l s sl) t
      ∙ part_apart S (d + sl) (part S d dl) p-fit s sl (⊎_elim (λ o. inr (omega (arith, p-long))) (λ o. inl (omega arith)) P.apart) P.fit-s in
      rw (there, kept)

  pub moved_row : (W : List ℕ) (n : ℕ) → n ≡ length (row_sum T (d + sl) dl s sl) → W ≡ put_row T d (dl + sl) (row_sum T (d + sl) dl s sl)
      → (n ≡ length (row_sum S d dl s sl)) × (W ≡ put_row S d (dl + sl) (row_sum S d dl s sl))
  unfolding put_row
  moved_row W n e w =
      let room : length (row_sum S d dl s sl) ≤ dl + sl = rw moved_sum at (sum-long T d dl s sl moved-can) in
      let l : length (pad_to (dl + sl) (row_sum S d dl s sl)) ≡ dl + sl = pad-length (dl + sl) (row_sum S d dl s sl) room in (
        e ∙ ap length moved_sum,
        w ∙ ap (λ (r : List ℕ). put_at T d (pad_to (dl + sl) r)) moved_sum
            ∙ put-outside S T d (pad_to (dl + sl) (row_sum S d dl s sl)) (omega (arith, l, P.fit-d)) t-long
            (λ m h. ap (λ (r : List ℕ). get_or r m 0) t ∙ put-below S (d + sl) (part S d dl) p-fit m (omega arith))
            (λ m h. ap (λ (r : List ℕ). get_or r m 0) t ∙ put-above S (d + sl) (part S d dl) p-fit m (omega (arith, l, p-long))),
      )

pub roomy-length : (S W : List ℕ) (d dl s sl : ℕ) → CanMerge S d dl s sl → W ≡ put_row S d (dl + sl) (row_sum S d dl s sl) → length W ≡ length S
unfolding row_sum
roomy-length S W d dl s sl P w =
    let l : length (part S d dl) ≡ dl = part_length S d dl (omega (arith, P.fit-d)) in
    let k : length (part S s sl) ≡ sl = part_length S s sl P.fit-s in
    ap length w ∙ row-length S d (dl + sl) (xor_merge (part S d dl) (part S s sl)) P.fit-d (omega (arith, merge-length (part S d dl) (part S s sl)))
