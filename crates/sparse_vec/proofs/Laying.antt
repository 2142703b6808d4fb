-- The pass of an addition from the top down. Assumes nothing.
use mathlib.Core.Path.{◌≡◌, refl, sym, ◌∙◌}
use mathlib.Core.Logic.{◌⊎◌, ⊎_elim}
use mathlib.Core.List.{List}
use Prim.Native.Nat.{ℕ, zero, suc, ◌+◌, ◌-◌, ◌≤◌, ◌<◌, min}
use native.Mathlib.Omega.{arith}
use lib.Dec.{leb}
use lib.ListN.{length, get_or, set, length-set, drop_of_length-le}
use lib.Seq.{get_or-set_same, get_or-set_other}
use borrow.Author.Tests.{leb-true, leb-false}
use Rattle.laws.specs.Plain.{pick}
use Rattle.laws.specs.Rows.{Rising, xor_merge}
use Rattle.laws.specs.Parts.{part}
use Rattle.laws.proofs.Bools.{by-test}
use Rattle.laws.proofs.Numbers.{lt-or-le, by_order}
use Rattle.laws.proofs.Parts.{part_length, part_at}
use Rattle.sparse_vec.specs.Passes.{CanLay, Laid, Halfway}
use Rattle.sparse_vec.proofs.Finding.{rising-lt}
use Rattle.sparse_vec.proofs.Steps.{at-end}
use Rattle.sparse_vec.proofs.Cuts.{Cut, cut-zero, cut-length, above-d, back-d, back-d-pos, back-d-is, back-b, back-b-pos, back-b-is, back-eq}

-- the downward pass has not touched a place of row D that it still has to read
pub laid-old : (O U : List ℕ) (d : ℕ) (D B : List ℕ) → Rising D → Rising B → (v : ℕ) → Laid O U d D (xor_merge D B) v
    → (i j w : ℕ) → Cut D B i j w → (h : ℕ) → h ≤ i → h < length D → w ≤ h → get_or U (d + h) 0 ≡ get_or O (d + h) 0
laid-old O U d D B rd rb v L i j w C zero a b c = L.old-first 0 refl b
laid-old O U d D B rd rb v L i j w C (suc q) a b c =
    ⊎_elim
    (λ p. L.old-mid q (suc q) refl b p (above-d D B rd rb i j w C q (suc q) (omega arith) c p))
    (λ p. L.old-top (suc q) p)
    (lt-or-le (suc q) (length (xor_merge D B)))

-- nor any place outside of the row's stretch
pub laid-apart : (O U : List ℕ) (d : ℕ) (D X : List ℕ) (v : ℕ) → Laid O U d D X v → (s sl j : ℕ) → (d + length X ≤ s) ⊎ (s + sl ≤ d) → j < sl
    → get_or U (s + j) 0 ≡ get_or O (s + j) 0
laid-apart O U d D X v L s sl j a h =
    ⊎_elim
    (λ l. let z : d + ((s + j) - d) ≡ s + j = omega arith in rw z at (L.old-top ((s + j) - d) (omega arith)))
    (λ l. L.old_below (s + j) (omega arith))
    a

module _ (O U : List ℕ) (d : ℕ) (D B : List ℕ) (rd : Rising D) (rb : Rising B) (w : ℕ) (L : Laid O U d D (xor_merge D B) w)
    (i j v : ℕ) (e : w ≡ suc v) (C : Cut D B i j v) where
  -- the sum's number v is not written: its place is still wanted
  pub laid-keep : v < length D → v ≤ i → Laid O U d D (xor_merge D B) v
  laid-keep a b = record {
    same = L.same;
    new-end = λ p l g m. L.new-end p (omega arith) g m;
    new-mid = λ q p f l g m o. ⊎_elim
        (λ t. L.new-mid q p f (omega arith) g m o)
        (λ t. absurd (omega (arith, above-d D B rd rb i j v C q p (omega arith) (omega arith) g)))
        (lt-or-le v p);
    old-low = λ p l. L.old-low p (omega arith);
    old-mid = L.old-mid;
    old-first = L.old-first;
    old-top = L.old-top;
    old_below = L.old_below;
  }

  -- the sum's number v is written
  pub laid-store : (y : ℕ) → v < length (xor_merge D B) → get_or (xor_merge D B) v 0 ≡ y → min (i + 1) (length D) ≤ v → (i < length D → y ≤ get_or D i 0)
      → d + v < length U → Laid O (set U (d + v) y) d D (xor_merge D B) v
  laid-store y a x b c f = record {
    same = simp length-set L.same;
    new-end = λ p l g m. ⊎_elim
        (λ t. other p (λ u. omega arith) ∙ L.new-end p (omega arith) g m)
        (λ t. here p (omega arith)) (lt-or-le v p);
    new-mid = λ q p k l g m o. ⊎_elim
        (λ t. other p (λ u. omega arith) ∙ L.new-mid q p k (omega arith) g m o)
        (λ t. here p (omega arith)) (lt-or-le v p);
    old-low = λ p l. other p (λ u. omega arith) ∙ L.old-low p (omega arith);
    old-mid = λ q p k l g m. by_order p v
        (λ t. other p (λ u. omega arith) ∙ L.old-mid q p k l g m)
        (λ t. absurd (clash q p k t l m))
        (λ t. other p (λ u. omega arith) ∙ L.old-mid q p k l g m);
    old-first = λ p k l. other p (λ u. omega arith) ∙ L.old-first p k l;
    old-top = λ p l. other p (λ u. omega arith) ∙ L.old-top p l;
    old_below = λ m l. get_or-set_other U (d + v) m y 0 (λ q. omega arith) ∙ L.old_below m l;
  }
    where
      other : (p : ℕ) → (p ≡ v → ⊥) → get_or (set U (d + v) y) (d + p) 0 ≡ get_or U (d + p) 0
      other p h = get_or-set_other U (d + v) (d + p) y 0 (λ q. h (omega arith))

      here : (p : ℕ) → p ≡ v → get_or (set U (d + v) y) (d + p) 0 ≡ get_or (xor_merge D B) p 0
      here p h = rw h (get_or-set_same U (d + v) y 0 f ∙ sym x)

      clash : (q p : ℕ) → p ≡ suc q → p ≡ v → p < length D → get_or D q 0 < get_or (xor_merge D B) p 0 → ⊥
      clash q p k t l m =
          let z : get_or (xor_merge D B) p 0 ≡ y = rw t x in
          ⊎_elim
          (λ o. omega (arith, c (omega arith), rising-lt D rd i q o (omega arith), z))
          (λ o. let u : i ≡ q = omega arith in let r : y ≤ get_or D q 0 = rw (← u) (c (omega arith)) in omega (arith, z))
          (lt-or-le i q)

-- the downward pass's invariant: D and B are read down to i and j, the sum is laid down to w, and no place below b may be written
pub record Up (O U : List ℕ) (d dl s sl n i j w b : ℕ) : Type 0 where
  pub b-is : b ≡ min (i + 1) dl
  pub i-le : i ≤ dl
  pub j-le : j ≤ sl
  pub w_le : w ≤ n
  pub same : length U ≡ length O
  pub cut : Cut (part O d dl) (part O s sl) i j w
  pub laid : Laid O U d (part O d dl) (xor_merge (part O d dl) (part O s sl)) w

module _ (O : List ℕ) (d dl s sl n : ℕ) (P : CanLay O d dl s sl n) where
  d-long : length (part O d dl) ≡ dl
  d-long = part_length O d dl P.fit-d

  s-long : length (part O s sl) ≡ sl
  s-long = part_length O s sl P.fit-s

  pub up_start : Up O O d dl s sl n dl sl n dl
  up_start = record {
    b-is = omega arith;
    i-le = omega arith;
    j-le = omega arith;
    w_le = omega arith;
    same = refl;
    cut = record {
      i-le = omega (arith, d-long);
      j-le = omega (arith, s-long);
      w_le = omega (arith, P.n-is);
      rest = drop_of_length-le (xor_merge (part O d dl) (part O s sl)) {i = n} (omega (arith, P.n-is))
          ∙ sym (at-end (part O d dl) (part O s sl) dl sl (omega (arith, d-long)) (omega (arith, s-long)));
      left = λ k l h. absurd (omega (arith, s-long));
      right = λ k l h. absurd (omega (arith, d-long));
    };
    laid = record {
      same = refl;
      new-end = λ p l g m. absurd (omega (arith, P.n-is));
      new-mid = λ q p f l g m o. absurd (omega (arith, P.n-is));
      old-low = λ p l. refl;
      old-mid = λ q p f l g m. refl;
      old-first = λ p l g. refl;
      old-top = λ p l. refl;
      old_below = λ m l. refl;
    };
  }

  module _ (U : List ℕ) (i j w b : ℕ) (H : Up O U d dl s sl n i j w b) where
    -- what the code reads at the cuts
    pub up-d : (h : ℕ) → h < i → get_or U (d + h) 0 ≡ get_or (part O d dl) h 0
    up-d h l =
        ⊎_elim (λ o. H.laid.old-low h o)
        (λ o. laid-old O U d (part O d dl) (part O s sl) P.rise-d P.rise-s w H.laid i j w H.cut h (omega arith) (omega (arith, d-long, H.i-le)) o)
        (lt-or-le h w)
        ∙ sym (part_at O d dl h (omega (arith, H.i-le)))

    pub up-s : (g : ℕ) → g < j → get_or U (s + g) 0 ≡ get_or (part O s sl) g 0
    up-s g l =
        laid-apart O U d (part O d dl) (xor_merge (part O d dl) (part O s sl)) w H.laid s sl g (rw (← P.n-is) P.apart) (omega (arith, H.j-le))
        ∙ sym (part_at O s sl g (omega (arith, H.j-le)))

    pub up-eq : (h g : ℕ) → i ≡ suc h → j ≡ suc g → get_or U (d + h) 0 ≡ get_or U (s + g) 0 → Up O U d dl s sl n h g w i
    up-eq h g ih jg e = record {
      b-is = omega (arith, H.i-le);
      i-le = omega (arith, H.i-le);
      j-le = omega (arith, H.j-le);
      w_le = H.w_le;
      same = H.same;
      laid = H.laid;
      cut = back-eq (part O d dl) (part O s sl) P.rise-d P.rise-s i j w H.cut h g ih jg (sym (up-d h (omega arith)) ∙ e ∙ up-s g (omega arith));
    }

    module _ (h g : ℕ) (ih : i ≡ suc h) (jg : j ≡ suc g) (e : get_or U (s + g) 0 < get_or U (d + h) 0) where
      low-d : (k : ℕ) → k < j → get_or (part O s sl) k 0 < get_or (part O d dl) h 0
      low-d k l = ⊎_elim
          (λ o. omega (arith, rising-lt (part O s sl) P.rise-s k g o (omega (arith, s-long, H.j-le)), up-d h (omega arith), up-s g (omega arith)))
          (λ o. let t : k ≡ g = omega arith in rw t (omega (arith, up-d h (omega arith), up-s g (omega arith))))
          (lt-or-le k g)

      pub up-d-pos : 0 < w
      up-d-pos = back-d-pos (part O d dl) (part O s sl) P.rise-d P.rise-s i j w H.cut h ih low-d

      module _ (v : ℕ) (wv : w ≡ suc v) where
        d-cut : Cut (part O d dl) (part O s sl) h j v
        d-cut = back-d (part O d dl) (part O s sl) P.rise-d P.rise-s i j w H.cut h ih low-d v wv

        d-is : get_or (xor_merge (part O d dl) (part O s sl)) v 0 ≡ get_or U (d + h) 0
        d-is = back-d-is (part O d dl) (part O s sl) P.rise-d P.rise-s i j w H.cut h ih low-d v wv ∙ sym (up-d h (omega arith))

        up-d-store : i ≤ v → Up O (set U (d + v) (get_or U (d + h) 0)) d dl s sl n h j v i
        up-d-store l = record {
          b-is = omega (arith, H.i-le);
          i-le = omega (arith, H.i-le);
          j-le = H.j-le;
          w_le = omega (arith, H.w_le);
          same = simp length-set H.same;
          cut = d-cut;
          laid = laid-store O U d (part O d dl) (part O s sl) P.rise-d P.rise-s w H.laid h j v wv d-cut (get_or U (d + h) 0)
              (omega (arith, P.n-is, H.w_le)) d-is (omega arith) (λ o. omega (arith, up-d h (omega arith))) (omega (arith, P.fit_n, H.w_le, H.same));
        }

        up-d-keep : v < i → Up O U d dl s sl n h j v i
        up-d-keep l = record {
          b-is = omega (arith, H.i-le);
          i-le = omega (arith, H.i-le);
          j-le = H.j-le;
          w_le = omega (arith, H.w_le);
          same = H.same;
          cut = d-cut;
          laid = laid-keep O U d (part O d dl) (part O s sl) P.rise-d P.rise-s w H.laid h j v wv d-cut (omega (arith, d-long, H.i-le)) (omega arith);
        }

        -- it goes to its place, or stays away
        pub up-d-lay : (U' : List ℕ) → U' ≡ pick (leb i v) (set U (d + v) (get_or U (d + h) 0)) U → Up O U' d dl s sl n h j v i
        up-d-lay U' q = by-test (leb i v) (λ t. rw (q, t) (up-d-store (leb-true i v t))) (λ f. rw (q, f) (up-d-keep (leb-false i v f)))

    -- the larger of the two is the source's
    pub low-none : (g : ℕ) → i ≤ 0 → (k : ℕ) → k < i → get_or (part O d dl) k 0 < get_or (part O s sl) g 0
    low-none g h k l = absurd (omega arith)

    pub low-some : (h g : ℕ) → i ≡ suc h → j ≡ suc g → get_or U (d + h) 0 < get_or U (s + g) 0 → (k : ℕ) → k < i → get_or (part O d dl) k 0 < get_or (part O s sl) g 0
    low-some h g ih jg e k l = ⊎_elim
        (λ o. omega (arith, rising-lt (part O d dl) P.rise-d k h o (omega (arith, d-long, H.i-le)), up-d h (omega arith), up-s g (omega arith)))
        (λ o. let t : k ≡ h = omega arith in rw t (omega (arith, up-d h (omega arith), up-s g (omega arith))))
        (lt-or-le k h)

    module _ (g : ℕ) (jg : j ≡ suc g) (low : (k : ℕ) → k < i → get_or (part O d dl) k 0 < get_or (part O s sl) g 0) where
      pub up-s-pos : 0 < w
      up-s-pos = back-b-pos (part O d dl) (part O s sl) P.rise-d P.rise-s i j w H.cut g jg low

      module _ (v : ℕ) (wv : w ≡ suc v) where
        s-cut : Cut (part O d dl) (part O s sl) i g v
        s-cut = back-b (part O d dl) (part O s sl) P.rise-d P.rise-s i j w H.cut g jg low v wv

        s-is : get_or (xor_merge (part O d dl) (part O s sl)) v 0 ≡ get_or U (s + g) 0
        s-is = back-b-is (part O d dl) (part O s sl) P.rise-d P.rise-s i j w H.cut g jg low v wv ∙ sym (up-s g (omega arith))

        up-s-store : b ≤ v → Up O (set U (d + v) (get_or U (s + g) 0)) d dl s sl n i g v b
        up-s-store l = record {
          b-is = H.b-is;
          i-le = H.i-le;
          j-le = omega (arith, H.j-le);
          w_le = omega (arith, H.w_le);
          same = simp length-set H.same;
          cut = s-cut;
          laid = laid-store O U d (part O d dl) (part O s sl) P.rise-d P.rise-s w H.laid i g v wv s-cut (get_or U (s + g) 0)
              (omega (arith, P.n-is, H.w_le)) s-is (omega (arith, H.b-is, d-long)) (λ o. omega (arith, up-s g (omega arith), H.cut.right g (omega arith) o)) (omega (arith, P.fit_n, H.w_le, H.same));
        }

        up-s-keep : v < b → Up O U d dl s sl n i g v b
        up-s-keep l = record {
          b-is = H.b-is;
          i-le = H.i-le;
          j-le = omega (arith, H.j-le);
          w_le = omega (arith, H.w_le);
          same = H.same;
          cut = s-cut;
          laid = laid-keep O U d (part O d dl) (part O s sl) P.rise-d P.rise-s w H.laid i g v wv s-cut (omega (arith, d-long, H.b-is)) (omega (arith, H.b-is));
        }

        pub up-s-lay : (U' : List ℕ) → U' ≡ pick (leb b v) (set U (d + v) (get_or U (s + g) 0)) U → Up O U' d dl s sl n i g v b
        up-s-lay U' q = by-test (leb b v) (λ t. rw (q, t) (up-s-store (leb-true b v t))) (λ f. rw (q, f) (up-s-keep (leb-false b v f)))

    -- with the source used up, the rest of D stands where the sum wants it
    pub up-end : j ≤ 0 → Halfway O U d dl s sl n
    up-end z =
        let j0 : j ≡ 0 = omega arith in
        let cz : (p : ℕ) → p ≤ i → Cut (part O d dl) (part O s sl) p 0 p =
        λ p l. cut-zero (part O d dl) (part O s sl) p (omega (arith, d-long, H.i-le)) (λ k o m. rw j0 at (H.cut.left k (omega arith) (omega arith))) in
        let c0 : Cut (part O d dl) (part O s sl) i 0 w = rw j0 at H.cut in
        let wi : w ≡ i = omega (arith, cut-length (part O d dl) (part O s sl) P.rise-d P.rise-s i 0 w c0, cut-length (part O d dl) (part O s sl) P.rise-d P.rise-s i 0 i (cz i (omega arith))) in
        record {
          can = P;
          laid = record {
            same = H.laid.same;
            new-end = λ p l g m. H.laid.new-end p (omega (arith, d-long, H.i-le)) g m;
            new-mid = λ q p f l g m o. ⊎_elim
                (λ t. absurd (omega (arith, above-d (part O d dl) (part O s sl) P.rise-d P.rise-s p 0 p (cz p (omega arith)) q p (omega arith) (omega arith) g)))
                (λ t. H.laid.new-mid q p f t g m o)
                (lt-or-le p w);
            old-low = λ p l. absurd (omega arith);
            old-mid = H.laid.old-mid;
            old-first = H.laid.old-first;
            old-top = H.laid.old-top;
            old_below = H.laid.old_below;
          };
        }
