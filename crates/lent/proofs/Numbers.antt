-- A lent slice as a list of plain numbers: what is read of it, repeated and put in it. Assumes nothing.
use mathlib.Core.Path.{◌≡◌, refl, sym, ap, ap₂, ◌∙◌}
use mathlib.Core.List.{List, ◌++◌, ◌∷◌, map}
use Prim.Native.Nat.{ℕ, zero, suc, ◌+◌, ◌-◌, ◌≤◌, ◌<◌}
use native.Mathlib.Omega.{arith}
use lib.ListN.{length, get_or, set, take, drop, replicate, length-drop, length-replicate}
use lib.Seq.{paste}
use Rattle.std.proofs.lemmas.List.{length-map, get_or-map, map-append, map-set, drop-map, length-take-le, take_all}
use Rattle.std.proofs.Common.{append_assoc}
use Rattle.std.specs.List.{take-map, copy_within}
use Rattle.laws.specs.Parts.{part, put_at, zeros}
use Rattle.lent.specs.Stretch.{Stretch, CanMove}
use Rattle.lent.proofs.Moves.{put-parts}
use borrow.Rule.Slice.PartMut.{put_mid}
use Rattle.std.proofs.lemmas.Slice.{put_mid-paste}

module _ {T : Type 0} (num : T → ℕ) (nums : List T → List ℕ) (law : (s : List T) → nums s ≡ map num s) where
  pub nums-length : (s : List T) → length (nums s) ≡ length s
  nums-length s = ap length (law s) ∙ length-map s num

  pub nums-at : (s : List T) (i : ℕ) (d : T) → i < length s → num (get_or s i d) ≡ get_or (nums s) i 0
  nums-at s i d h = sym (ap (λ (l : List ℕ). get_or l i 0) (law s) ∙ get_or-map num s i d 0 h)

  pub nums-append : (r s : List T) → nums (r ++ s) ≡ nums r ++ nums s
  nums-append r s = rw (law, law, law) (map-append num r s)

  pub nums-take : (n : ℕ) (s : List T) → nums (take n s) ≡ take n (nums s)
  nums-take n s = rw (law, law) (sym (take-map num n s))

  pub nums-drop : (n : ℕ) (s : List T) → nums (drop n s) ≡ drop n (nums s)
  nums-drop n s = rw (law, law) (sym (drop-map num n s))

  same : (n : ℕ) (x : T) → map num (replicate n x) ≡ replicate n (num x)
  same zero x = refl
  same (suc n) x = ap (λ (l : List ℕ). num x ∷ l) (same n x)

  pub nums-replicate : (n : ℕ) (x : T) → nums (replicate n x) ≡ replicate n (num x)
  nums-replicate n x = law (replicate n x) ∙ same n x

  -- the first n numbers of r put from place b on
  pub nums-paste : (s : List T) (b : ℕ) (r : List T) (n : ℕ) → n ≤ length r → nums (paste s b r n) ≡ put_at (nums s) b (take n (nums r))
  unfolding put_at
  nums-paste s b r n h =
      let e : length (take n (nums r)) ≡ n = length-take-le n (nums r) (omega (arith, nums-length r)) in
      rw e (simp (nums-append, nums-take, nums-drop, append_assoc))

  -- a stretch of k numbers, as the code lends it, is r now
  pub nums-put : (s r : List T) (b k : ℕ) → length r ≡ k → nums (put_mid b k s r) ≡ put_at (nums s) b (nums r)
  nums-put s r b k e =
      rw (put_mid-paste b k s r r k refl refl (sym e))
      (nums-paste s b r k (omega arith) ∙ ap (put_at (nums s) b) (take_all k (nums r) (omega (arith, nums-length r))))

  -- a stretch that is all x, which is zero
  pub put-zeros : (s r : List T) (from to : ℕ) (x : T) → Stretch (nums s) from to → num x ≡ 0 → r ≡ replicate (length (take (to - from) (drop from s))) x
      → nums (put_mid from (to - from) s r) ≡ put_at (nums s) from (zeros (to - from))
  unfolding zeros
  put-zeros s r from to x h z e =
      let l : length (take (to - from) (drop from s)) ≡ to - from = length-take-le (to - from) (drop from s) (simp length-drop (omega (arith, nums-length s, h))) in
      let f : r ≡ replicate (to - from) x = rw l at e in
      nums-put s r from (to - from) (rw f (length-replicate (to - from) x)) ∙ ap (put_at (nums s) from) (rw (f, nums-replicate (to - from) x, z))

  -- n numbers moved
  pub copied : (s t : List T) (from to n : ℕ) → CanMove (nums s) from to n → t ≡ copy_within s from (from + n) to → nums t ≡ put_at (nums s) to (part (nums s) from n)
  unfolding part
  copied s t from to n h e =
      let q : from + n - from ≡ n = omega arith in
      let f : t ≡ paste s to (drop from s) n = rw q at e in
      rw f (nums-paste s to (drop from s) n (simp length-drop (omega (arith, nums-length s, h))) ∙ simp nums-drop)

  -- two stretches of n numbers that are lent in the two parts of s, the one below `high` and the one from there on, change places
  pub exchanged : (s f b x y : List T) (low high n : ℕ) → low + n ≤ high → high + n ≤ length (nums s) → f ≡ take high s → b ≡ drop high s
      → x ≡ take n b → y ≡ take (low + n - low) (drop low f)
      → nums (put_mid low (low + n - low) f x ++ (y ++ drop n b)) ≡ put_at (put_at (nums s) low (part (nums s) high n)) high (part (nums s) low n)
  unfolding part
  exchanged s f b x y low high n h g ef eb ex ey =
      let q : low + n - low ≡ n = omega arith in
      let first : nums f ≡ take high (nums s) = ap nums ef ∙ nums-take high s in
      let second : nums b ≡ drop high (nums s) = ap nums eb ∙ nums-drop high s in
      let long : length x ≡ low + n - low = ap length ex ∙ length-take-le n b (rw eb (simp length-drop (omega (arith, nums-length s)))) ∙ sym q in
      nums-append (put_mid low (low + n - low) f x) (y ++ drop n b)
      ∙ ap₂ (λ (u v : List ℕ). u ++ v)
      (nums-put f x low (low + n - low) long ∙ ap₂ (λ (u v : List ℕ). put_at u low v) first (ap nums ex ∙ nums-take n b ∙ ap (take n) second))
      (nums-append y (drop n b) ∙ ap₂ (λ (u v : List ℕ). u ++ v)
      (ap nums ey ∙ nums-take (low + n - low) (drop low f) ∙ ap₂ (λ (k : ℕ) (u : List ℕ). take k u) q (nums-drop low f ∙ ap (drop low) first))
      (nums-drop n b ∙ ap (drop n) second))
      ∙ put-parts (nums s) low high n h g

  -- one number written
  pub nums-set : (s : List T) (i : ℕ) (x : T) → nums (set s i x) ≡ set (nums s) i (num x)
  nums-set s i x = rw (law, law) (map-set num s i x)
