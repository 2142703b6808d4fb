-- Where two rising rows are cut at one height, their sum is cut too; a cut goes up and down by one number. Assumes nothing.
use mathlib.Core.Path.{◌≡◌, refl, ap, ◌∙◌}
use mathlib.Core.Logic.{⊎_elim}
use mathlib.Core.List.{List, [], ◌∷◌, ◌++◌}
use Prim.Native.Nat.{ℕ, suc, ◌+◌, ◌-◌, ◌≤◌, ◌<◌}
use native.Mathlib.Omega.{arith}
use lib.ListN.{length, get_or, take, drop, length-append, length-drop, take-append-drop}
use lib.Seq.{get_or-take, get_or-drop, length-take-le, drop_at}
use Rattle.laws.specs.Rows.{From, Rising, xor_merge}
use Rattle.laws.proofs.Numbers.{lt-or-le, by_order}
use Rattle.laws.proofs.Members.{from-of, from_at}
use Rattle.laws.proofs.Merge.{merge-lt, merge-gt, merge-eq, merge-nil, nil-merge, merge-from}
use Rattle.sparse_vec.proofs.Finding.{rising-lt}
use Rattle.sparse_vec.proofs.Steps.{at_lt, at-gt, at-eq, at_left, at_right, rest_more, rest-head, rest-tail}

pub merge-cut : (a b c e : List ℕ) → ((k : ℕ) → k < length a → 0 < length e → get_or a k 0 < get_or e 0 0)
    → ((k : ℕ) → k < length b → 0 < length c → get_or b k 0 < get_or c 0 0)
    → xor_merge (a ++ c) (b ++ e) ≡ xor_merge a b ++ xor_merge c e
merge-cut [] [] c e p q = rw (nil-merge [])
merge-cut [] (y ∷ b) [] e p q = rw (nil-merge ((y ∷ b) ++ e), nil-merge (y ∷ b), nil-merge e)
merge-cut [] (y ∷ b) (z ∷ c) e p q =
    merge-gt z y c (b ++ e) (q 0 (omega arith) (omega arith))
    ∙ ap (λ (l : List ℕ). y ∷ l) (merge-cut [] b (z ∷ c) e (λ k l m. absurd (omega arith)) (λ k l m. q (suc k) (omega arith) (omega arith)))
    ∙ rw (nil-merge b, nil-merge (y ∷ b))
merge-cut (x ∷ a) [] c [] p q = rw (merge-nil ((x ∷ a) ++ c), merge-nil (x ∷ a), merge-nil c)
merge-cut (x ∷ a) [] c (z ∷ e) p q =
    merge-lt x z (a ++ c) e (p 0 (omega arith) (omega arith))
    ∙ ap (λ (l : List ℕ). x ∷ l) (merge-cut a [] c (z ∷ e) (λ k l m. p (suc k) (omega arith) (omega arith)) (λ k l m. absurd (omega arith)))
    ∙ rw (merge-nil a, merge-nil (x ∷ a))
merge-cut (x ∷ a) (y ∷ b) c e p q =
    by_order x y
    (λ h. merge-lt x y (a ++ c) (b ++ e) h
    ∙ ap (λ (l : List ℕ). x ∷ l) (merge-cut a (y ∷ b) c e (λ k l m. p (suc k) (omega arith) m) q) ∙ rw (merge-lt x y a b h))
    (λ h. merge-eq x y (a ++ c) (b ++ e) h
    ∙ merge-cut a b c e (λ k l m. p (suc k) (omega arith) m) (λ k l m. q (suc k) (omega arith) m) ∙ rw (merge-eq x y a b h))
    (λ h. merge-gt x y (a ++ c) (b ++ e) h
    ∙ ap (λ (l : List ℕ). y ∷ l) (merge-cut (x ∷ a) b c e p (λ k l m. q (suc k) (omega arith) m)) ∙ rw (merge-gt x y a b h))

-- D is cut at i, B at j and their sum at w, so that the three fronts sum up and every number before a cut is smaller than the other row's next one
pub record Cut (D B : List ℕ) (i j w : ℕ) : Type 0 where
  pub i-le : i ≤ length D
  pub j-le : j ≤ length B
  pub w_le : w ≤ length (xor_merge D B)
  pub rest : drop w (xor_merge D B) ≡ xor_merge (drop i D) (drop j B)
  pub left : (k : ℕ) → k < i → j < length B → get_or D k 0 < get_or B j 0
  pub right : (k : ℕ) → k < j → i < length D → get_or B k 0 < get_or D i 0

pub cut-start : (D B : List ℕ) → Cut D B 0 0 0
cut-start D B = record {
  i-le = omega arith;
  j-le = omega arith;
  w_le = omega arith;
  rest = refl;
  left = λ k l h. absurd (omega arith);
  right = λ k l h. absurd (omega arith);
}

-- what is left of a rising row rises from above every number below its first
from-rest : (i : ℕ) (l : List ℕ) (b : ℕ) → Rising l → (i < length l → b ≤ get_or l i 0) → From b (drop i l)
from-rest i l b r h =
    from-of b (drop i l)
    (λ m. let z : i + 0 ≡ i = omega arith in rw (get_or-drop i l 0 0, z) (h (omega (arith, length-drop i l))))
    (λ k m. rw (get_or-drop i l k 0, get_or-drop i l (suc k) 0) (rising-lt l r (i + k) (i + suc k) (omega arith) (omega (arith, length-drop i l))))

head-drop : (i : ℕ) (s : List ℕ) → get_or (drop i s) 0 0 ≡ get_or s i 0
head-drop i s = let z : i + 0 ≡ i = omega arith in get_or-drop i s 0 0 ∙ ap (λ (m : ℕ). get_or s m 0) z

module _ (D B : List ℕ) (i j : ℕ) (il : i ≤ length D) (jl : j ≤ length B)
    (left : (k : ℕ) → k < i → j < length B → get_or D k 0 < get_or B j 0)
    (right : (k : ℕ) → k < j → i < length D → get_or B k 0 < get_or D i 0) where
  cut_sum : xor_merge D B ≡ xor_merge (take i D) (take j B) ++ xor_merge (drop i D) (drop j B)
  cut_sum =
      let p : xor_merge (take i D ++ drop i D) (take j B ++ drop j B) ≡ xor_merge (take i D) (take j B) ++ xor_merge (drop i D) (drop j B) =
      merge-cut (take i D) (take j B) (drop i D) (drop j B)
      (λ k l m. let u : k < i = omega (arith, length-take-le i D il) in
      let t : get_or (take i D) k 0 ≡ get_or D k 0 = get_or-take i D k 0 u in
      omega (arith, t, head-drop j B, left k u (omega (arith, length-drop j B))))
      (λ k l m. let u : k < j = omega (arith, length-take-le j B jl) in
      let t : get_or (take j B) k 0 ≡ get_or B k 0 = get_or-take j B k 0 u in
      omega (arith, t, head-drop i D, right k u (omega (arith, length-drop i D)))) in
      rw (take-append-drop i D, take-append-drop j B) at p

  pub cut-room : length (xor_merge (drop i D) (drop j B)) ≤ length (xor_merge D B)
  cut-room = omega (arith, simp length-append at (ap length cut_sum))

  pub cut-make : (w : ℕ) → w + length (xor_merge (drop i D) (drop j B)) ≡ length (xor_merge D B) → Cut D B i j w
  cut-make w e =
      let l : length (xor_merge (take i D) (take j B)) ≡ w = omega (arith, simp length-append at (ap length cut_sum)) in
      record {
        i-le = il;
        j-le = jl;
        w_le = omega arith;
        left = left;
        right = right;
        rest = ap (λ (t : List ℕ). drop w t) cut_sum ∙ drop_at (xor_merge (take i D) (take j B)) (xor_merge (drop i D) (drop j B)) w l;
      }

-- a cut that has taken nothing of B has taken D's own numbers
pub cut-zero : (D B : List ℕ) (p : ℕ) → p ≤ length D → ((k : ℕ) → k < p → 0 < length B → get_or D k 0 < get_or B 0 0) → Cut D B p 0 p
cut-zero D B p h left =
    let r : (k : ℕ) → k < 0 → p < length D → get_or B k 0 < get_or D p 0 = λ k l g. absurd (omega arith) in
    let e : xor_merge D B ≡ take p D ++ xor_merge (drop p D) (drop 0 B) =
    cut_sum D B p 0 h (omega arith) left r ∙ ap (λ (t : List ℕ). t ++ xor_merge (drop p D) (drop 0 B)) (merge-nil (take p D)) in
    cut-make D B p 0 h (omega arith) left r p (omega (arith, simp length-append at (ap length e), length-take-le p D h))

module _ (D B : List ℕ) (rd : Rising D) (rb : Rising B) (i j w : ℕ) (C : Cut D B i j w) where
  pub cut-length : w + length (xor_merge (drop i D) (drop j B)) ≡ length (xor_merge D B)
  cut-length = omega (arith, C.w_le, length-drop w (xor_merge D B), ap length C.rest)

  -- a number of D before its cut is smaller than every number of the sum behind its own
  pub above-d : (k p : ℕ) → k < i → w ≤ p → p < length (xor_merge D B) → get_or D k 0 < get_or (xor_merge D B) p 0
  above-d k p l h g =
      let f : From (suc (get_or D k 0)) (xor_merge (drop i D) (drop j B)) =
      merge-from (suc (get_or D k 0)) (drop i D) (drop j B)
      (from-rest i D (suc (get_or D k 0)) rd (λ m. rising-lt D rd k i l m))
      (from-rest j B (suc (get_or D k 0)) rb (λ m. C.left k l m)) in
      let z : w + (p - w) ≡ p = omega arith in
      let t : get_or (drop w (xor_merge D B)) (p - w) 0 ≡ get_or (xor_merge D B) p 0 = get_or-drop w (xor_merge D B) (p - w) 0 ∙ ap (λ (m : ℕ). get_or (xor_merge D B) m 0) z in
      let u : get_or (xor_merge (drop i D) (drop j B)) (p - w) 0 ≡ get_or (xor_merge D B) p 0 = rw C.rest at t in
      omega (arith, u, from_at (suc (get_or D k 0)) (xor_merge (drop i D) (drop j B)) (p - w) f (omega (arith, cut-length)))

  -- the cuts move forward past y, the sum's next number
  module _ (y : ℕ) (z : List ℕ) (e : xor_merge (drop i D) (drop j B) ≡ y ∷ z) where
    pub next-in : w < length (xor_merge D B)
    next-in = rest_more (xor_merge D B) w y z (C.rest ∙ e)

    pub next-is : get_or (xor_merge D B) w 0 ≡ y
    next-is = rest-head (xor_merge D B) w y z (C.rest ∙ e)

    pub next-rest : drop (w + 1) (xor_merge D B) ≡ z
    next-rest = rest-tail (xor_merge D B) w y z (C.rest ∙ e)

  pub cut-lt : i < length D → j < length B → get_or D i 0 < get_or B j 0 → Cut D B (i + 1) j (w + 1)
  cut-lt p q h = record {
    i-le = omega arith;
    j-le = omega arith;
    w_le = omega (arith, next-in _ _ (at_lt D B i j p q h));
    rest = next-rest _ _ (at_lt D B i j p q h);
    left = λ k l g. ⊎_elim (λ o. C.left k o g) (λ o. let t : k ≡ i = omega arith in rw t h) (lt-or-le k i);
    right = λ k l g. omega (arith, C.right k l p, rising-lt D rd i (i + 1) (omega arith) g);
  }

  pub cut-gt : i < length D → j < length B → get_or B j 0 < get_or D i 0 → Cut D B i (j + 1) (w + 1)
  cut-gt p q h = record {
    i-le = omega arith;
    j-le = omega arith;
    w_le = omega (arith, next-in _ _ (at-gt D B i j p q h));
    rest = next-rest _ _ (at-gt D B i j p q h);
    left = λ k l g. omega (arith, C.left k l q, rising-lt B rb j (j + 1) (omega arith) g);
    right = λ k l g. ⊎_elim (λ o. C.right k o g) (λ o. let t : k ≡ j = omega arith in rw t h) (lt-or-le k j);
  }

  pub cut-eq : i < length D → j < length B → get_or D i 0 ≡ get_or B j 0 → Cut D B (i + 1) (j + 1) w
  cut-eq p q h = record {
    i-le = omega arith;
    j-le = omega arith;
    w_le = C.w_le;
    rest = C.rest ∙ at-eq D B i j p q h;
    left = λ k l g. ⊎_elim
        (λ o. omega (arith, C.left k o q, rising-lt B rb j (j + 1) (omega arith) g))
        (λ o. let t : k ≡ i = omega arith in rw t (omega (arith, rising-lt B rb j (j + 1) (omega arith) g))) (lt-or-le k i);
    right = λ k l g. ⊎_elim
        (λ o. omega (arith, C.right k o p, rising-lt D rd i (i + 1) (omega arith) g))
        (λ o. let t : k ≡ j = omega arith in rw t (omega (arith, rising-lt D rd i (i + 1) (omega arith) g))) (lt-or-le k j);
  }

  pub cut_left : i < length D → length B ≤ j → Cut D B (i + 1) j (w + 1)
  cut_left p q = record {
    i-le = omega arith;
    j-le = C.j-le;
    w_le = omega (arith, next-in _ _ (at_left D B i j p q));
    rest = next-rest _ _ (at_left D B i j p q);
    left = λ k l g. absurd (omega arith);
    right = λ k l g. omega (arith, C.right k l p, rising-lt D rd i (i + 1) (omega arith) g);
  }

  pub cut_right : length D ≤ i → j < length B → Cut D B i (j + 1) (w + 1)
  cut_right p q = record {
    i-le = C.i-le;
    j-le = omega arith;
    w_le = omega (arith, next-in _ _ (at_right D B i j p q));
    rest = next-rest _ _ (at_right D B i j p q);
    left = λ k l g. omega (arith, C.left k l q, rising-lt B rb j (j + 1) (omega arith) g);
    right = λ k l g. absurd (omega arith);
  }

  -- the cuts move back by one number
  module _ (h : ℕ) (ih : i ≡ suc h) (low : (k : ℕ) → k < j → get_or B k 0 < get_or D h 0) where
    d-next : xor_merge (drop h D) (drop j B) ≡ get_or D h 0 ∷ xor_merge (drop i D) (drop j B)
    d-next =
        let z : h + 1 ≡ i = omega arith in
        let p : xor_merge (drop h D) (drop j B) ≡ get_or D h 0 ∷ xor_merge (drop (h + 1) D) (drop j B) =
        ⊎_elim (λ o. at_lt D B h j (omega (arith, C.i-le)) o (C.left h (omega arith) o)) (λ o. at_left D B h j (omega (arith, C.i-le)) o) (lt-or-le j (length B)) in
        rw z at p

    d-left : (k : ℕ) → k < h → j < length B → get_or D k 0 < get_or B j 0
    d-left k l g = C.left k (omega arith) g

    pub back-d-pos : 0 < w
    back-d-pos = omega (arith, cut-length, ap length d-next, cut-room D B h j (omega (arith, C.i-le)) C.j-le d-left (λ k l g. low k l))

    pub back-d : (v : ℕ) → w ≡ suc v → Cut D B h j v
    back-d v e = cut-make D B h j (omega (arith, C.i-le)) C.j-le d-left (λ k l g. low k l) v (omega (arith, cut-length, ap length d-next))

    pub back-d-is : (v : ℕ) → w ≡ suc v → get_or (xor_merge D B) v 0 ≡ get_or D h 0
    back-d-is v e = rest-head (xor_merge D B) v (get_or D h 0) (xor_merge (drop i D) (drop j B)) ((back-d v e).rest ∙ d-next)

  module _ (g : ℕ) (jg : j ≡ suc g) (low : (k : ℕ) → k < i → get_or D k 0 < get_or B g 0) where
    b-next : xor_merge (drop i D) (drop g B) ≡ get_or B g 0 ∷ xor_merge (drop i D) (drop j B)
    b-next =
        let z : g + 1 ≡ j = omega arith in
        let p : xor_merge (drop i D) (drop g B) ≡ get_or B g 0 ∷ xor_merge (drop i D) (drop (g + 1) B) =
        ⊎_elim (λ o. at-gt D B i g o (omega (arith, C.j-le)) (C.right g (omega arith) o)) (λ o. at_right D B i g o (omega (arith, C.j-le))) (lt-or-le i (length D)) in
        rw z at p

    b-right : (k : ℕ) → k < g → i < length D → get_or B k 0 < get_or D i 0
    b-right k l m = C.right k (omega arith) m

    pub back-b-pos : 0 < w
    back-b-pos = omega (arith, cut-length, ap length b-next, cut-room D B i g C.i-le (omega (arith, C.j-le)) (λ k l m. low k l) b-right)

    pub back-b : (v : ℕ) → w ≡ suc v → Cut D B i g v
    back-b v e = cut-make D B i g C.i-le (omega (arith, C.j-le)) (λ k l m. low k l) b-right v (omega (arith, cut-length, ap length b-next))

    pub back-b-is : (v : ℕ) → w ≡ suc v → get_or (xor_merge D B) v 0 ≡ get_or B g 0
    back-b-is v e = rest-head (xor_merge D B) v (get_or B g 0) (xor_merge (drop i D) (drop j B)) ((back-b v e).rest ∙ b-next)

  pub back-eq : (h g : ℕ) → i ≡ suc h → j ≡ suc g → get_or D h 0 ≡ get_or B g 0 → Cut D B h g w
  back-eq h g ih jg e =
      let y : h + 1 ≡ i = omega arith in
      let z : g + 1 ≡ j = omega arith in
      let p : xor_merge (drop h D) (drop g B) ≡ xor_merge (drop (h + 1) D) (drop (g + 1) B) = at-eq D B h g (omega (arith, C.i-le)) (omega (arith, C.j-le)) e in
      let q : xor_merge (drop h D) (drop g B) ≡ xor_merge (drop i D) (drop j B) = rw (y, z) at p in
      cut-make D B h g (omega (arith, C.i-le)) (omega (arith, C.j-le))
      (λ k l m. omega (arith, rising-lt D rd k h l (omega (arith, C.i-le))))
      (λ k l m. omega (arith, rising-lt B rb k g l (omega (arith, C.j-le))))
      w (omega (arith, cut-length, ap length q))
