-- The pass of an addition from the bottom up, after the one from the top. Assumes nothing.
use mathlib.Core.Path.{◌≡◌, refl, sym, ap, ◌∙◌}
use mathlib.Core.Logic.{⊎_elim}
use mathlib.Core.Bool.{not}
use mathlib.Core.List.{List}
use Prim.Native.Nat.{ℕ, zero, suc, ◌+◌, ◌-◌, ◌≤◌, ◌<◌}
use native.Mathlib.Omega.{arith}
use lib.Dec.{leb, eqb}
use lib.ListN.{length, get_or, set, drop, length-set, length-drop, drop_of_length-le}
use lib.Seq.{get_or-drop, get_or-set_same, get_or-set_other}
use mir.Val.{bool_byte}
use Rattle.laws.specs.Rows.{xor_merge}
use Rattle.laws.specs.Parts.{part, put_at}
use Rattle.laws.proofs.Numbers.{lt-or-le, by_order}
use Rattle.laws.proofs.Merge.{merge-nil}
use Rattle.laws.proofs.Parts.{part_length, part_at, put-length, put-below, put-in, put-above}
use Rattle.sparse_vec.specs.Passes.{Halfway, Half, Settled}
use Rattle.lent.specs.Stretch.{CanMove}
use Rattle.sparse_vec.proofs.Places.{is-put}
use Rattle.sparse_vec.proofs.Finding.{rising-lt}
use Rattle.sparse_vec.proofs.Steps.{at_lt, at-gt, at_right, by_tests}
use Rattle.sparse_vec.proofs.Cuts.{Cut, cut-start, above-d, next-is, cut-lt, cut-gt, cut-eq, cut_left, cut_right}
use Rattle.sparse_vec.proofs.Laying.{laid-old, laid-apart}

-- the upward pass's invariant, told of one list O that the downward pass started from: places before w hold the sum, the others what T held
pub record Way (O T U : List ℕ) (d dl s sl n i j w : ℕ) : Type 0 where
  pub same : length U ≡ length T
  pub cut : Cut (part O d dl) (part O s sl) i j w
  pub done : (p : ℕ) → p < w → get_or U (d + p) 0 ≡ get_or (xor_merge (part O d dl) (part O s sl)) p 0
  pub kept : (p : ℕ) → w ≤ p → get_or U (d + p) 0 ≡ get_or T (d + p) 0
  pub below : (m : ℕ) → m < d → get_or U m 0 ≡ get_or T m 0

module _ (O T : List ℕ) (d dl s sl n : ℕ) (G : Halfway O T d dl s sl n) where
  d-long : length (part O d dl) ≡ dl
  d-long = part_length O d dl G.can.fit-d

  s-long : length (part O s sl) ≡ sl
  s-long = part_length O s sl G.can.fit-s

  n-long : length (xor_merge (part O d dl) (part O s sl)) ≡ n
  n-long = sym G.can.n-is

  pub way-start : Way O T T d dl s sl n 0 0 0
  way-start = record {
    same = refl;
    cut = cut-start (part O d dl) (part O s sl);
    done = λ p l. absurd (omega arith);
    kept = λ p l. refl;
    below = λ m l. refl;
  }

  module _ (U : List ℕ) (i j w : ℕ) (H : Way O T U d dl s sl n i j w) where
    pub way-s : j < sl → get_or U (s + j) 0 ≡ get_or (part O s sl) j 0
    way-s h =
        ⊎_elim
        (λ l. let z : d + ((s + j) - d) ≡ s + j = omega arith in rw z at (H.kept ((s + j) - d) (omega (arith, H.cut.w_le, n-long))))
        (λ l. H.below (s + j) (omega arith))
        G.can.apart
        ∙ laid-apart O T d (part O d dl) (xor_merge (part O d dl) (part O s sl)) 0 G.laid s sl j (rw n-long G.can.apart) h
        ∙ sym (part_at O s sl j h)

    pub way-d : w ≤ i → i < dl → get_or U (d + i) 0 ≡ get_or (part O d dl) i 0
    way-d l h =
        H.kept i l
        ∙ laid-old O T d (part O d dl) (part O s sl) G.can.rise-d G.can.rise-s 0 G.laid i j w H.cut i (omega arith) (omega (arith, d-long)) l
        ∙ sym (part_at O d dl i h)

    -- the turn stores y as the sum's number w
    way-push : (y i' j' : ℕ) → Cut (part O d dl) (part O s sl) i' j' (w + 1) → get_or (xor_merge (part O d dl) (part O s sl)) w 0 ≡ y → Way O T (set U (d + w) y) d dl s sl n i' j' (w + 1)
    way-push y i' j' c e = record {
      same = simp length-set H.same;
      cut = c;
      done = λ p l. ⊎_elim
          (λ o. get_or-set_other U (d + w) (d + p) y 0 (λ q. omega arith) ∙ H.done p o)
          (λ o. let q : p ≡ w = omega arith in
          rw q (get_or-set_same U (d + w) y 0 (omega (arith, H.same, G.laid.same, G.can.fit_n, c.w_le, n-long)) ∙ sym e))
          (lt-or-le p w);
      kept = λ p l. get_or-set_other U (d + w) (d + p) y 0 (λ q. omega arith) ∙ H.kept p (omega arith);
      below = λ m l. get_or-set_other U (d + w) m y 0 (λ q. omega arith) ∙ H.below m l;
    }

    -- the downward pass laid the sum's number w
    way-pass : (i' j' : ℕ) → Cut (part O d dl) (part O s sl) i' j' (w + 1) → get_or U (d + w) 0 ≡ get_or (xor_merge (part O d dl) (part O s sl)) w 0 → Way O T U d dl s sl n i' j' (w + 1)
    way-pass i' j' c e = record {
      same = H.same;
      cut = c;
      done = λ p l. ⊎_elim (λ o. H.done p o) (λ o. let q : p ≡ w = omega arith in rw q e) (lt-or-le p w);
      kept = λ p l. H.kept p (omega arith);
      below = H.below;
    }

    -- equal numbers cancel, and nothing is stored
    way-drop : (i' j' : ℕ) → Cut (part O d dl) (part O s sl) i' j' w → Way O T U d dl s sl n i' j' w
    way-drop i' j' c = record { same = H.same; cut = c; done = H.done; kept = H.kept; below = H.below }

    module _ (p : i < dl) (q : j < sl) where
      pi : i < length (part O d dl)
      pi = omega (arith, d-long)

      qj : j < length (part O s sl)
      qj = omega (arith, s-long)

      c_lt : get_or (part O d dl) i 0 < get_or (part O s sl) j 0 → Cut (part O d dl) (part O s sl) (i + 1) j (w + 1)
      c_lt e = cut-lt (part O d dl) (part O s sl) G.can.rise-d G.can.rise-s i j w H.cut pi qj e

      c-gt : get_or (part O s sl) j 0 < get_or (part O d dl) i 0 → Cut (part O d dl) (part O s sl) i (j + 1) (w + 1)
      c-gt e = cut-gt (part O d dl) (part O s sl) G.can.rise-d G.can.rise-s i j w H.cut pi qj e

      c-eq : get_or (part O d dl) i 0 ≡ get_or (part O s sl) j 0 → Cut (part O d dl) (part O s sl) (i + 1) (j + 1) w
      c-eq e = cut-eq (part O d dl) (part O s sl) G.can.rise-d G.can.rise-s i j w H.cut pi qj e

      x_lt : get_or (part O d dl) i 0 < get_or (part O s sl) j 0 → get_or (xor_merge (part O d dl) (part O s sl)) w 0 ≡ get_or (part O d dl) i 0
      x_lt e = next-is (part O d dl) (part O s sl) G.can.rise-d G.can.rise-s i j w H.cut _ _ (at_lt (part O d dl) (part O s sl) i j pi qj e)

      x-gt : get_or (part O s sl) j 0 < get_or (part O d dl) i 0 → get_or (xor_merge (part O d dl) (part O s sl)) w 0 ≡ get_or (part O s sl) j 0
      x-gt e = next-is (part O d dl) (part O s sl) G.can.rise-d G.can.rise-s i j w H.cut _ _ (at-gt (part O d dl) (part O s sl) i j pi qj e)

      module _ (l : w ≤ i) where
        pub way-eq : get_or U (d + i) 0 ≡ get_or U (s + j) 0 → Way O T U d dl s sl n (i + 1) (j + 1) w
        way-eq e = way-drop (i + 1) (j + 1) (c-eq (sym (way-d l p) ∙ e ∙ way-s q))

        pub way-lt : get_or U (d + i) 0 < get_or U (s + j) 0 → Way O T (set U (d + w) (get_or U (d + i) 0)) d dl s sl n (i + 1) j (w + 1)
        way-lt e =
            let f : get_or (part O d dl) i 0 < get_or (part O s sl) j 0 = omega (arith, way-d l p, way-s q) in
            way-push (get_or U (d + i) 0) (i + 1) j (c_lt f) (x_lt f ∙ sym (way-d l p))

        pub way-gt : get_or U (s + j) 0 < get_or U (d + i) 0 → Way O T (set U (d + w) (get_or U (s + j) 0)) d dl s sl n i (j + 1) (w + 1)
        way-gt e =
            let f : get_or (part O s sl) j 0 < get_or (part O d dl) i 0 = omega (arith, way-d l p, way-s q) in
            way-push (get_or U (s + j) 0) i (j + 1) (c-gt f) (x-gt f ∙ sym (way-s q))

    c-right : dl ≤ i → j < sl → Cut (part O d dl) (part O s sl) i (j + 1) (w + 1)
    c-right p q = cut_right (part O d dl) (part O s sl) G.can.rise-d G.can.rise-s i j w H.cut (omega (arith, d-long)) (omega (arith, s-long))

    x-right : dl ≤ i → j < sl → get_or (xor_merge (part O d dl) (part O s sl)) w 0 ≡ get_or (part O s sl) j 0
    x-right p q = next-is (part O d dl) (part O s sl) G.can.rise-d G.can.rise-s i j w H.cut _ _ (at_right (part O d dl) (part O s sl) i j (omega (arith, d-long)) (omega (arith, s-long)))

    pub way-right : dl ≤ i → j < sl → Way O T (set U (d + w) (get_or U (s + j) 0)) d dl s sl n i (j + 1) (w + 1)
    way-right p q = way-push (get_or U (s + j) 0) i (j + 1) (c-right p q) (x-right p q ∙ sym (way-s q))

    pub right-in : dl ≤ i → j < sl → w < n
    right-in p q = omega (arith, (c-right p q).w_le, n-long)

    -- while the sum is ahead of D, its number w has been laid if it does not exceed D's number before it
    ahead : (p : ℕ) → i < w → w ≤ p → p < n → (k : ℕ) → k < p → (k < dl → get_or (xor_merge (part O d dl) (part O s sl)) p 0 ≤ get_or (part O d dl) k 0) → get_or U (d + p) 0 ≡ get_or (xor_merge (part O d dl) (part O s sl)) p 0
    ahead zero a b c k l f = absurd (omega arith)
    ahead (suc q) a b c k l f =
        H.kept (suc q) b
        ∙ ⊎_elim
        (λ o. G.laid.new-mid q (suc q) refl (omega arith) (omega (arith, n-long)) (omega (arith, d-long))
        (⊎_elim
        (λ t. omega (arith, f (omega arith), rising-lt (part O d dl) G.can.rise-d k q t (omega (arith, d-long))))
        (λ t. let u : k ≡ q = omega arith in rw u at (f (omega arith)))
        (lt-or-le k q)))
        (λ o. G.laid.new-end (suc q) (omega arith) (omega (arith, n-long)) (omega (arith, d-long)))
        (lt-or-le q dl)

    module _ (a : i < w) (b : w < n) (q : j < sl) where
      z-lt : (p : i < dl) → get_or (part O d dl) i 0 < get_or (part O s sl) j 0 → get_or U (d + w) 0 ≡ get_or (xor_merge (part O d dl) (part O s sl)) w 0
      z-lt p e = ahead w a (omega arith) b i a (λ o. omega (arith, x_lt p q e))

      z-gt : (p : i < dl) → get_or (part O s sl) j 0 < get_or (part O d dl) i 0 → get_or U (d + w) 0 ≡ get_or (xor_merge (part O d dl) (part O s sl)) w 0
      z-gt p e = ahead w a (omega arith) b i a (λ o. omega (arith, x-gt p q e))

      z-right : dl ≤ i → get_or U (d + w) 0 ≡ get_or (xor_merge (part O d dl) (part O s sl)) w 0
      z-right p = ahead w a (omega arith) b i a (λ o. absurd (omega arith))

      z-eq : (p : i < dl) → get_or (part O d dl) i 0 ≡ get_or (part O s sl) j 0 → get_or (part O s sl) j 0 < get_or U (d + w) 0
      z-eq p e = by w refl
        where
          x-up : get_or (part O s sl) j 0 < get_or (xor_merge (part O d dl) (part O s sl)) w 0
          x-up = omega (arith, above-d (part O d dl) (part O s sl) G.can.rise-d G.can.rise-s (i + 1) (j + 1) w (c-eq p q e) i w (omega arith) (omega arith) (omega (arith, n-long)))

          by : (v : ℕ) → v ≡ w → get_or (part O s sl) j 0 < get_or U (d + w) 0
          by zero t = absurd (omega arith)
          by (suc k) t =
              ⊎_elim
              (λ o. ⊎_elim
              (λ m. omega (arith, H.kept w (omega arith), G.laid.old-mid k w (sym t) (omega (arith, d-long)) (omega (arith, n-long)) m, part_at O d dl w (omega arith), rising-lt (part O d dl) G.can.rise-d i w a (omega (arith, d-long))))
              (λ m. omega (arith, x-up, H.kept w (omega arith), G.laid.new-mid k w (sym t) (omega arith) (omega (arith, n-long)) (omega (arith, d-long)) m))
              (lt-or-le (get_or (part O d dl) k 0) (get_or (xor_merge (part O d dl) (part O s sl)) w 0)))
              (λ o. omega (arith, x-up, H.kept w (omega arith), G.laid.new-end w (omega arith) (omega (arith, n-long)) (omega (arith, d-long))))
              (lt-or-le w dl)

      way-pass-d : get_or U (d + w) 0 < get_or U (s + j) 0 → Way O T U d dl s sl n (i + 1) j (w + 1)
      way-pass-d z =
          ⊎_elim
          (λ p. by_order (get_or (part O d dl) i 0) (get_or (part O s sl) j 0)
          (λ e. way-pass (i + 1) j (c_lt p q e) (z-lt p e))
          (λ e. absurd (omega (arith, z-eq p e, way-s q)))
          (λ e. absurd (omega (arith, z-gt p e, x-gt p q e, way-s q))))
          (λ p. absurd (omega (arith, z-right p, x-right p q, way-s q)))
          (lt-or-le i dl)

      way-pass-s : get_or U (d + w) 0 ≡ get_or U (s + j) 0 → Way O T U d dl s sl n i (j + 1) (w + 1)
      way-pass-s z =
          ⊎_elim
          (λ p. by_order (get_or (part O d dl) i 0) (get_or (part O s sl) j 0)
          (λ e. absurd (omega (arith, z-lt p e, x_lt p q e, way-s q)))
          (λ e. absurd (omega (arith, z-eq p e, way-s q)))
          (λ e. way-pass i (j + 1) (c-gt p q e) (z-gt p e)))
          (λ p. way-pass i (j + 1) (c-right p q) (z-right p))
          (lt-or-le i dl)

      way-pass-both : get_or U (s + j) 0 < get_or U (d + w) 0 → Way O T U d dl s sl n (i + 1) (j + 1) w
      way-pass-both z =
          ⊎_elim
          (λ p. by_order (get_or (part O d dl) i 0) (get_or (part O s sl) j 0)
          (λ e. absurd (omega (arith, z-lt p e, x_lt p q e, way-s q)))
          (λ e. way-drop (i + 1) (j + 1) (c-eq p q e))
          (λ e. absurd (omega (arith, z-gt p e, x-gt p q e, way-s q))))
          (λ p. absurd (omega (arith, z-right p, x-right p q, way-s q)))
          (lt-or-le i dl)

      -- the same by the outcome of tests
      pub way-pass-on : (z y : ℕ) → z ≡ get_or U (d + w) 0 → y ≡ get_or U (s + j) 0
          → Way O T U d dl s sl n (i + bool_byte (not (eqb z y))) (j + bool_byte (leb y z)) (w + bool_byte (leb z y))
      way-pass-on z y ez ey =
          let i0 : i + 0 ≡ i = omega arith in
          let j0 : j + 0 ≡ j = omega arith in
          let w0 : w + 0 ≡ w = omega arith in
          by_tests z y (λ u v x. Way O T U d dl s sl n (i + u) (j + x) (w + v))
          (λ e. rw j0 (way-pass-d (omega arith)))
          (λ e. rw i0 (way-pass-s (sym ez ∙ e ∙ ey)))
          (λ e. rw w0 (way-pass-both (omega arith)))

    -- behind the sum's last number only pairs are left
    pub way-rest : n ≤ w → j < sl → Way O T U d dl s sl n (i + 1) (j + 1) w
    way-rest b q =
        ⊎_elim
        (λ p. by_order (get_or (part O d dl) i 0) (get_or (part O s sl) j 0)
        (λ e. absurd (omega (arith, (c_lt p q e).w_le, n-long)))
        (λ e. way-drop (i + 1) (j + 1) (c-eq p q e))
        (λ e. absurd (omega (arith, (c-gt p q e).w_le, n-long))))
        (λ p. absurd (omega (arith, (c-right p q).w_le, n-long)))
        (lt-or-le i dl)

    -- ---- the second row is used up, and the first follows as it is
    module _ (q : sl ≤ j) where
      cut_on : (k : ℕ) → i + k ≤ dl → Cut (part O d dl) (part O s sl) (i + k) j (w + k)
      cut_on zero h = let i0 : i + 0 ≡ i = omega arith in let w0 : w + 0 ≡ w = omega arith in rw (i0, w0) H.cut
      cut_on (suc k) h =
          let i1 : i + suc k ≡ i + k + 1 = omega arith in
          let w1 : w + suc k ≡ w + k + 1 = omega arith in
          rw (i1, w1) (cut_left (part O d dl) (part O s sl) G.can.rise-d G.can.rise-s (i + k) j (w + k) (cut_on k (omega arith)) (omega (arith, d-long)) (omega (arith, s-long)))

      left : drop w (xor_merge (part O d dl) (part O s sl)) ≡ drop i (part O d dl)
      left = H.cut.rest ∙ rw (drop_of_length-le (part O s sl) {i = j} (omega (arith, s-long)), merge-nil)

      left-long : n - w ≡ dl - i
      left-long = omega (arith, n-long, d-long, length-drop w (xor_merge (part O d dl) (part O s sl)), length-drop i (part O d dl), ap length left)

      left_at : (k : ℕ) → get_or (xor_merge (part O d dl) (part O s sl)) (w + k) 0 ≡ get_or (part O d dl) (i + k) 0
      left_at k = sym (get_or-drop w (xor_merge (part O d dl) (part O s sl)) k 0) ∙ ap (λ (l : List ℕ). get_or l k 0) left ∙ get_or-drop i (part O d dl) k 0

      way-put : (W : List ℕ) → length W ≡ length T → ((p : ℕ) → p < n → get_or W (d + p) 0 ≡ get_or (xor_merge (part O d dl) (part O s sl)) p 0)
          → ((m : ℕ) → m < d → get_or W m 0 ≡ get_or T m 0) → ((m : ℕ) → d + n ≤ m → get_or W m 0 ≡ get_or T m 0)
          → W ≡ put_at T d (xor_merge (part O d dl) (part O s sl))
      way-put W e f low high =
          is-put T W d (xor_merge (part O d dl) (part O s sl)) (omega (arith, n-long, G.can.fit_n, G.laid.same)) e low
          (λ k h. f k (omega (arith, n-long))) (λ m h. high m (omega (arith, n-long)))

      above : (m : ℕ) → d + n ≤ m → get_or U m 0 ≡ get_or T m 0
      above m h = let z : d + (m - d) ≡ m = omega arith in rw z at (H.kept (m - d) (omega (arith, H.cut.w_le, n-long)))

      -- it stands in its place
      pub way_end : i ≤ w → U ≡ put_at T d (xor_merge (part O d dl) (part O s sl))
      way_end a = way-put U H.same (λ p h. ⊎_elim (λ o. H.done p o) (λ o. ⊎_elim (λ t. further p o h t) (λ t. H.kept p o ∙ still p o h t) (lt-or-le i w)) (lt-or-le p w)) H.below above
        where
          further : (p : ℕ) → w ≤ p → p < n → i < w → get_or U (d + p) 0 ≡ get_or (xor_merge (part O d dl) (part O s sl)) p 0
          further p o h t =
              let z : w + (p - w) ≡ p = omega arith in
              ahead p t o h (i + (p - w)) (omega arith) (λ k. omega (arith, rw z at (left_at (p - w))))

          still : (p : ℕ) → w ≤ p → p < n → w ≤ i → get_or T (d + p) 0 ≡ get_or (xor_merge (part O d dl) (part O s sl)) p 0
          still p o h t =
              let z : w + (p - w) ≡ p = omega arith in
              let y : i + (p - w) ≡ p = omega arith in
              laid-old O T d (part O d dl) (part O s sl) G.can.rise-d G.can.rise-s 0 G.laid (i + (p - w)) j p (rw z at (cut_on (p - w) (omega (arith, left-long)))) p (omega arith) (omega (arith, d-long, left-long)) (omega arith)
              ∙ sym (part_at O d dl p (omega (arith, left-long))) ∙ sym (rw (z, y) at (left_at (p - w)))

      -- or it is brought there
      pub way-bring : w < i → CanMove U (d + i) (d + w) (dl - i)
      way-bring a = record {
        there = omega (arith, H.same, G.laid.same, G.can.fit-d, H.cut.i-le, d-long);
        here = omega (arith, H.same, G.laid.same, G.can.fit-d, H.cut.i-le, d-long);
      }

      pub way-brought : (W : List ℕ) → w < i → W ≡ put_at U (d + w) (part U (d + i) (dl - i)) → W ≡ put_at T d (xor_merge (part O d dl) (part O s sl))
      way-brought W a e = way-put W (w-long ∙ H.same)
          (λ p h. ⊎_elim
          (λ o. w_at (d + p) ∙ put-below U (d + w) (part U (d + i) (dl - i)) fit (d + p) (omega arith) ∙ H.done p o)
          (λ o. let at : d + w + (p - w) ≡ d + p = omega arith in
          let z : w + (p - w) ≡ p = omega arith in
          let y : d + i + (p - w) ≡ d + (i + (p - w)) = omega arith in
          (rw at at (w_at (d + w + (p - w)) ∙ put-in U (d + w) (part U (d + i) (dl - i)) fit (p - w) (omega (arith, long, left-long))))
          ∙ part_at U (d + i) (dl - i) (p - w) (omega (arith, left-long)) ∙ ap (λ (m : ℕ). get_or U m 0) y
          ∙ unread (i + (p - w)) (omega arith) (omega (arith, left-long)) ∙ sym (rw z at (left_at (p - w))))
          (lt-or-le p w))
          (λ m h. w_at m ∙ put-below U (d + w) (part U (d + i) (dl - i)) fit m (omega arith) ∙ H.below m h)
          (λ m h. w_at m ∙ put-above U (d + w) (part U (d + i) (dl - i)) fit m (omega (arith, long, left-long, n-long, H.cut.w_le)) ∙ above m h)
        where
          long : length (part U (d + i) (dl - i)) ≡ dl - i
          long = part_length U (d + i) (dl - i) (way-bring a).here

          fit : d + w + length (part U (d + i) (dl - i)) ≤ length U
          fit = omega (arith, long, (way-bring a).there)

          w_at : (m : ℕ) → get_or W m 0 ≡ get_or (put_at U (d + w) (part U (d + i) (dl - i))) m 0
          w_at m = ap (λ (l : List ℕ). get_or l m 0) e

          w-long : length W ≡ length U
          w-long = ap length e ∙ put-length U (d + w) (part U (d + i) (dl - i)) fit

          unread : (k : ℕ) → i ≤ k → k < dl → get_or U (d + k) 0 ≡ get_or (part O d dl) k 0
          unread k h g =
              let z : i + (k - i) ≡ k = omega arith in
              H.kept k (omega arith)
              ∙ (rw z at (laid-old O T d (part O d dl) (part O s sl) G.can.rise-d G.can.rise-s 0 G.laid (i + (k - i)) j (w + (k - i)) (cut_on (k - i) (omega arith)) (i + (k - i)) (omega arith) (omega (arith, d-long)) (omega arith)))
              ∙ sym (part_at O d dl k g)

-- the same invariant for every list that T may come from
pub record On (T U : List ℕ) (d dl s sl n i j w : ℕ) : Type 0 where
  pub i-le : i ≤ dl
  pub j-le : j ≤ sl
  pub w_le : w ≤ n
  pub fit-d : d + dl ≤ length T
  pub fit_n : d + n ≤ length T
  pub fit-s : s + sl ≤ length T
  pub same : length U ≡ length T
  pub some : Half T d dl s sl n
  pub all : (o : List ℕ) → Halfway o T d dl s sl n → Way o T U d dl s sl n i j w

module _ (T : List ℕ) (d dl s sl n : ℕ) where
  on-make : (U : List ℕ) (i j w : ℕ) → Half T d dl s sl n → ((o : List ℕ) → Halfway o T d dl s sl n → Way o T U d dl s sl n i j w) → On T U d dl s sl n i j w
  on-make U i j w F f =
      let G : Halfway F.orig T d dl s sl n = F.half in
      let H : Way F.orig T U d dl s sl n i j w = f F.orig F.half in
      record {
        i-le = omega (arith, H.cut.i-le, d-long F.orig T d dl s sl n G);
        j-le = omega (arith, H.cut.j-le, s-long F.orig T d dl s sl n G);
        w_le = omega (arith, H.cut.w_le, n-long F.orig T d dl s sl n G);
        fit-d = omega (arith, G.can.fit-d, G.laid.same);
        fit_n = omega (arith, G.can.fit_n, G.laid.same);
        fit-s = omega (arith, G.can.fit-s, G.laid.same);
        same = H.same;
        some = F;
        all = f;
      }

  pub on-start : Half T d dl s sl n → On T T d dl s sl n 0 0 0
  on-start F = on-make T 0 0 0 F (λ o G. way-start o T d dl s sl n G)

  module _ (U : List ℕ) (i j w : ℕ) (N : On T U d dl s sl n i j w) where
    pub on-eq : i < dl → j < sl → w ≤ i → get_or U (d + i) 0 ≡ get_or U (s + j) 0 → On T U d dl s sl n (i + 1) (j + 1) w
    on-eq p q l e = on-make U (i + 1) (j + 1) w N.some (λ o G. way-eq o T d dl s sl n G U i j w (N.all o G) p q l e)

    pub on-lt : i < dl → j < sl → w ≤ i → get_or U (d + i) 0 < get_or U (s + j) 0 → On T (set U (d + w) (get_or U (d + i) 0)) d dl s sl n (i + 1) j (w + 1)
    on-lt p q l e = on-make (set U (d + w) (get_or U (d + i) 0)) (i + 1) j (w + 1) N.some (λ o G. way-lt o T d dl s sl n G U i j w (N.all o G) p q l e)

    pub on-gt : i < dl → j < sl → w ≤ i → get_or U (s + j) 0 < get_or U (d + i) 0 → On T (set U (d + w) (get_or U (s + j) 0)) d dl s sl n i (j + 1) (w + 1)
    on-gt p q l e = on-make (set U (d + w) (get_or U (s + j) 0)) i (j + 1) (w + 1) N.some (λ o G. way-gt o T d dl s sl n G U i j w (N.all o G) p q l e)

    pub on-right : dl ≤ i → j < sl → On T (set U (d + w) (get_or U (s + j) 0)) d dl s sl n i (j + 1) (w + 1)
    on-right p q = on-make (set U (d + w) (get_or U (s + j) 0)) i (j + 1) (w + 1) N.some (λ o G. way-right o T d dl s sl n G U i j w (N.all o G) p q)

    pub on_room : dl ≤ i → j < sl → w < n
    on_room p q = right-in N.some.orig T d dl s sl n N.some.half U i j w (N.all N.some.orig N.some.half) p q

    pub on-pass : i < w → w < n → j < sl → (z y : ℕ) → z ≡ get_or U (d + w) 0 → y ≡ get_or U (s + j) 0
        → On T U d dl s sl n (i + bool_byte (not (eqb z y))) (j + bool_byte (leb y z)) (w + bool_byte (leb z y))
    on-pass a b q z y ez ey = on-make U (i + bool_byte (not (eqb z y))) (j + bool_byte (leb y z)) (w + bool_byte (leb z y)) N.some (λ o G. way-pass-on o T d dl s sl n G U i j w (N.all o G) a b q z y ez ey)

    pub on-falls : i < w → w < n → j < sl → (z y : ℕ) → z ≡ get_or U (d + w) 0 → y ≡ get_or U (s + j) 0
        → (dl - (i + bool_byte (not (eqb z y)))) + (sl - (j + bool_byte (leb y z))) < (dl - i) + (sl - j)
    on-falls a b q z y ez ey =
        by_tests z y (λ u v x. i + u ≤ dl → (dl - (i + u)) + (sl - (j + x)) < (dl - i) + (sl - j)) (λ e h. omega arith) (λ e h. omega arith) (λ e h. omega arith)
        (on-pass a b q z y ez ey).i-le

    pub on-rest : n ≤ w → j < sl → On T U d dl s sl n (i + 1) (j + 1) w
    on-rest b q = on-make U (i + 1) (j + 1) w N.some (λ o G. way-rest o T d dl s sl n G U i j w (N.all o G) b q)

    pub on-end : i ≤ w → sl ≤ j → Settled T U d dl s sl n
    on-end a q = record { sum = λ o G. way_end o T d dl s sl n G U i j w (N.all o G) q a }

    pub on-bring : w < i → sl ≤ j → CanMove U (d + i) (d + w) (dl - i)
    on-bring a q = way-bring N.some.orig T d dl s sl n N.some.half U i j w (N.all N.some.orig N.some.half) q a

    pub on-brought : (W : List ℕ) → w < i → sl ≤ j → W ≡ put_at U (d + w) (part U (d + i) (dl - i)) → Settled T W d dl s sl n
    on-brought W a q e = record { sum = λ o G. way-brought o T d dl s sl n G U i j w (N.all o G) q W a e }
