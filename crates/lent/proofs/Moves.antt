-- Two stretches of a list that change places, in the two parts in which the code lends them. Assumes nothing.
use mathlib.Core.Path.{◌≡◌, refl, sym, ap, ap₂, ◌∙◌}
use mathlib.Core.Logic.{⊎_elim}
use mathlib.Core.List.{List, ◌++◌}
use Prim.Native.Nat.{ℕ, ◌+◌, ◌-◌, ◌≤◌, ◌<◌}
use native.Mathlib.Omega.{arith}
use lib.ListN.{length, take, drop}
use lib.Seq.{ext_get_or}
use Rattle.std.proofs.lemmas.List.{length-take-le, get_or-take}
use Rattle.std.proofs.lemmas.Slice.{drop-put_mid}
use Rattle.std.proofs.lemmas.List.{drop-drop}
use Rattle.laws.specs.Parts.{part, put_at}
use Rattle.laws.proofs.Numbers.{lt-or-le}
use Rattle.laws.proofs.Parts.{put-length, put-below, put-in, put-above, put_is, part_length, part_at}

-- two stretches that lie apart are put in any order
module _ (s r t : List ℕ) (a b : ℕ) (h : a + length r ≤ b) (g : b + length t ≤ length s) where
  fit-t : b + length t ≤ length (put_at s a r)
  fit-t = omega (arith, put-length s a r (omega arith))

  fit-r : a + length r ≤ length (put_at s b t)
  fit-r = omega (arith, put-length s b t g)

  pub put-swap : put_at (put_at s a r) b t ≡ put_at (put_at s b t) a r
  put-swap =
      ext_get_or 0 (put_at (put_at s a r) b t) (put_at (put_at s b t) a r)
      (put-length (put_at s a r) b t fit-t ∙ put-length s a r (omega arith) ∙ sym (put-length (put_at s b t) a r fit-r ∙ put-length s b t g))
      (λ k l. ⊎_elim
      (λ o. put-below (put_at s a r) b t fit-t k o ∙ ⊎_elim
      (λ p. put-below s a r (omega arith) k p ∙ sym (put-below (put_at s b t) a r fit-r k p ∙ put-below s b t g k o))
      (λ p. ⊎_elim
      (λ q. let e : a + (k - a) ≡ k = omega arith in
      rw e at (put-in s a r (omega arith) (k - a) (omega arith) ∙ sym (put-in (put_at s b t) a r fit-r (k - a) (omega arith))))
      (λ q. put-above s a r (omega arith) k q ∙ sym (put-above (put_at s b t) a r fit-r k q ∙ put-below s b t g k o))
      (lt-or-le k (a + length r)))
      (lt-or-le k a))
      (λ o. ⊎_elim
      (λ q. let e : b + (k - b) ≡ k = omega arith in
      rw e at (put-in (put_at s a r) b t fit-t (k - b) (omega arith) ∙ sym (put-in s b t g (k - b) (omega arith))))
      (λ q. put-above (put_at s a r) b t fit-t k q ∙ put-above s a r (omega arith) k (omega arith) ∙ sym (put-above s b t g k q))
      (lt-or-le k (b + length t)) ∙ sym (put-above (put_at s b t) a r fit-r k (omega arith)))
      (lt-or-le k b))

-- the list cut at `high`: a stretch is put into the first part
module _ (s r : List ℕ) (low high : ℕ) (h : low + length r ≤ high) (g : high ≤ length s) where
  long : length (take high s) ≡ high
  long = length-take-le high s g

  fit : low + length r ≤ length (take high s)
  fit = omega (arith, long)

  pub put-take : put_at (take high s) low r ≡ take high (put_at s low r)
  put-take =
      ext_get_or 0 (put_at (take high s) low r) (take high (put_at s low r))
      (put-length (take high s) low r fit ∙ long ∙ sym (length-take-le high (put_at s low r) (omega (arith, put-length s low r (omega arith)))))
      (λ k l. let o : k < high = omega (arith, put-length (take high s) low r fit, long) in
      ⊎_elim
      (λ p. put-below (take high s) low r fit k p ∙ get_or-take high s k 0 o ∙ sym (put-below s low r (omega arith) k p))
      (λ p. ⊎_elim
      (λ q. let e : low + (k - low) ≡ k = omega arith in
      rw e at (put-in (take high s) low r fit (k - low) (omega arith) ∙ sym (put-in s low r (omega arith) (k - low) (omega arith))))
      (λ q. put-above (take high s) low r fit k q ∙ get_or-take high s k 0 o ∙ sym (put-above s low r (omega arith) k q))
      (lt-or-le k (low + length r)))
      (lt-or-le k low)
      ∙ sym (get_or-take high (put_at s low r) k 0 o))

  pub drop-put : (m : ℕ) → high ≤ m → drop m (put_at s low r) ≡ drop m s
  drop-put m l = ap (drop m) (sym (put_is s low (length r) r refl)) ∙ drop-put_mid low ((low + length r) - low) s r m (omega arith) (omega arith) (omega arith)

-- two stretches of n numbers, on either side of the cut
module _ (s : List ℕ) (low high n : ℕ) (h : low + n ≤ high) (g : high + n ≤ length s) where
  long-low : length (part s low n) ≡ n
  long-low = part_length s low n (omega arith)

  long-high : length (part s high n) ≡ n
  long-high = part_length s high n g

  part-take : part (take high s) low n ≡ part s low n
  part-take =
      ext_get_or 0 (part (take high s) low n) (part s low n) (cut ∙ sym long-low)
      (λ k l. part_at (take high s) low n k (omega (arith, cut)) ∙ get_or-take high s (low + k) 0 (omega (arith, cut)) ∙ sym (part_at s low n k (omega (arith, cut))))
    where
      cut : length (part (take high s) low n) ≡ n
      cut = part_length (take high s) low n (omega (arith, length-take-le high s (omega arith)))

  pub put-parts : put_at (take high s) low (part s high n) ++ (part (take high s) low n ++ drop n (drop high s)) ≡ put_at (put_at s low (part s high n)) high (part s low n)
  unfolding put_at
  put-parts =
      let x : List ℕ = part s high n in
      let room : low + length x ≤ high = omega (arith, long-high) in
      ap₂ (λ (u v : List ℕ). u ++ v) (put-take s x low high room (omega arith))
      (ap₂ (λ (u v : List ℕ). u ++ v) part-take
      (drop-drop n high s ∙ sym (drop-put s x low high room (omega arith) (high + n) (omega arith)) ∙ ap (λ (m : ℕ). drop (high + m) (put_at s low x)) (sym long-low)))
