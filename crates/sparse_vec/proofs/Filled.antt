-- A stretch that is written place by place, from below or from above, and the loops over it. Assumes nothing.
use mathlib.Core.Path.{◌≡◌, refl, sym, ◌∙◌}
use mathlib.Core.Logic.{⊎_elim}
use mathlib.Core.List.{List}
use Prim.Native.Nat.{ℕ, suc, ◌+◌, ◌≤◌, ◌<◌}
use native.Mathlib.Omega.{arith}
use lib.ListN.{length, get_or, set, length-set}
use lib.Seq.{get_or-set_same, get_or-set_other}
use Rattle.laws.specs.Parts.{part, put_at}
use Rattle.laws.proofs.Numbers.{lt-or-le}
use Rattle.laws.proofs.Parts.{part_length, part_at}
use Rattle.sparse_vec.specs.Passes.{CanBring}
use Rattle.sparse_vec.proofs.Places.{is-put}

-- T is S with the numbers lo to hi-1 of r, of n numbers, at their places in the stretch at b
pub record Filled (S T : List ℕ) (b n : ℕ) (r : List ℕ) (lo hi : ℕ) : Type 0 where
  pub fits : b + n ≤ length S
  pub long : length r ≡ n
  pub lo-le : lo ≤ hi
  pub hi-le : hi ≤ n
  pub same : length T ≡ length S
  pub done : (i : ℕ) → lo ≤ i → i < hi → get_or T (b + i) 0 ≡ get_or r i 0
  pub low : (m : ℕ) → m < b + lo → get_or T m 0 ≡ get_or S m 0
  pub high : (m : ℕ) → b + hi ≤ m → get_or T m 0 ≡ get_or S m 0

pub filled-start : (S : List ℕ) (b n : ℕ) (r : List ℕ) (k : ℕ) → b + n ≤ length S → length r ≡ n → k ≤ n → Filled S S b n r k k
filled-start S b n r k f e h = record {
  fits = f;
  long = e;
  lo-le = omega arith;
  hi-le = h;
  same = refl;
  done = λ i l g. absurd (omega arith);
  low = λ m l. refl;
  high = λ m l. refl;
}

module _ (S T : List ℕ) (b n : ℕ) (r : List ℕ) (lo hi : ℕ) (F : Filled S T b n r lo hi) where
  -- the next place above
  pub filled-up : (p h y : ℕ) → p ≡ b + hi → h ≡ suc hi → hi < n → y ≡ get_or r hi 0 → Filled S (set T p y) b n r lo h
  filled-up p h y e f l v = record {
    fits = F.fits;
    long = F.long;
    lo-le = omega (arith, F.lo-le);
    hi-le = omega arith;
    same = simp length-set F.same;
    done = λ i a g. ⊎_elim
        (λ o. get_or-set_other T p (b + i) y 0 (λ q. omega arith) ∙ F.done i a o)
        (λ o. let q : i ≡ hi = omega arith in rw (q, e) (get_or-set_same T (b + hi) y 0 (omega (arith, F.same, F.fits)) ∙ v))
        (lt-or-le i hi);
    low = λ m a. get_or-set_other T p m y 0 (λ q. omega (arith, F.lo-le)) ∙ F.low m a;
    high = λ m a. get_or-set_other T p m y 0 (λ q. omega arith) ∙ F.high m (omega arith);
  }

  pub filled-done : lo ≤ 0 → n ≤ hi → T ≡ put_at S b r
  filled-done z h =
      is-put S T b r (omega (arith, F.fits, F.long)) F.same (λ m l. F.low m (omega arith))
      (λ k l. F.done k (omega arith) (omega (arith, F.long))) (λ m l. F.high m (omega (arith, F.long, F.hi-le)))

-- ---- the k numbers at `from` written from `to` on
module _ (S : List ℕ) (to from k : ℕ) (C : CanBring S to from k) where
  pub bring-start : Filled S S to k (part S from k) 0 0
  bring-start = filled-start S to k (part S from k) 0 C.fit-to (part_length S from k C.fit-from) (omega arith)

  pub bring-more : (T : List ℕ) (j : ℕ) → Filled S T to k (part S from k) 0 j → j < k
      → Filled S (set T (to + j) (get_or T (from + j) 0)) to k (part S from k) 0 (j + 1)
  bring-more T j F h =
      filled-up S T to k (part S from k) 0 j F (to + j) (j + 1) (get_or T (from + j) 0) refl (omega arith) h
      (⊎_elim (λ o. F.high (from + j) (omega arith)) (λ o. F.low (from + j) (omega arith)) C.order ∙ sym (part_at S from k j h))
