-- Two rows of k places in a run of h rows change places: what stands where then. Assumes nothing.
use mathlib.Core.Path.{◌≡◌, sym, ◌∙◌}
use mathlib.Core.Logic.{◌⊎◌, inl, inr, ⊎_elim}
use mathlib.Core.List.{List}
use Prim.Native.Nat.{ℕ, ◌+◌, ◌*◌, ◌≤◌, ◌<◌}
use native.Mathlib.Omega.{arith}
use lib.Dec.{eqb}
use lib.ListN.{length, get_or}
use lib.Seq.{ext_get_or}
use borrow.Author.Tests.{eqb-true, eqb-false}
use Rattle.laws.specs.Plain.{exchange}
use Rattle.laws.specs.Parts.{part, put_at}
use Rattle.laws.proofs.Bools.{by-test}
use Rattle.laws.proofs.Parts.{part_length, part_at, put-length, put-below, put-in, put-above, row-end}
use Rattle.model.specs.Change.{exchanged}
use Rattle.model.proofs.Rows.{rows_apart}

module _ (l : List ℕ) (k h y x : ℕ) (hy : y < h) (hx : x < h) (ne : y ≡ x → ⊥) (fits : h * k ≤ length l) where
  end-y : y * k + k ≤ length l
  end-y = omega (arith, row-end y h k hy)

  end-x : x * k + k ≤ length l
  end-x = omega (arith, row-end x h k hx)

  half : List ℕ
  half = put_at l (y * k) (part l (x * k) k)

  long-x : length (part l (x * k) k) ≡ k
  long-x = part_length l (x * k) k end-x

  long-y : length (part l (y * k) k) ≡ k
  long-y = part_length l (y * k) k end-y

  fit-y : y * k + length (part l (x * k) k) ≤ length l
  fit-y = omega (arith, long-x, end-y)

  half_length : length (put_at l (y * k) (part l (x * k) k)) ≡ length l
  half_length = put-length l (y * k) (part l (x * k) k) fit-y

  fit-x : x * k + length (part l (y * k) k) ≤ length (put_at l (y * k) (part l (x * k) k))
  fit-x = omega (arith, long-y, end-x, half_length)

  pub exchanged-length : length (exchanged l (y * k) (x * k) k) ≡ length l
  exchanged-length = put-length (put_at l (y * k) (part l (x * k) k)) (x * k) (part l (y * k) k) fit-x ∙ half_length

  -- a place in neither row
  elsewhere : (i : ℕ) → (i < y * k) ⊎ (y * k + k ≤ i) → (i < x * k) ⊎ (x * k + k ≤ i) → get_or (exchanged l (y * k) (x * k) k) i 0 ≡ get_or l i 0
  elsewhere i a b =
      ⊎_elim
      (λ o. put-below (put_at l (y * k) (part l (x * k) k)) (x * k) (part l (y * k) k) fit-x i o)
      (λ o. put-above (put_at l (y * k) (part l (x * k) k)) (x * k) (part l (y * k) k) fit-x i (omega (arith, long-y)))
      b
      ∙ ⊎_elim
      (λ o. put-below l (y * k) (part l (x * k) k) fit-y i o)
      (λ o. put-above l (y * k) (part l (x * k) k) fit-y i (omega (arith, long-x)))
      a

  at_x : (i : ℕ) → i < k → get_or (exchanged l (y * k) (x * k) k) (x * k + i) 0 ≡ get_or l (y * k + i) 0
  at_x i h = put-in (put_at l (y * k) (part l (x * k) k)) (x * k) (part l (y * k) k) fit-x i (omega (arith, long-y)) ∙ part_at l (y * k) k i h

  at_y : (i : ℕ) → i < k → get_or (exchanged l (y * k) (x * k) k) (y * k + i) 0 ≡ get_or l (x * k + i) 0
  at_y i h =
      ⊎_elim
      (λ o. put-below (put_at l (y * k) (part l (x * k) k)) (x * k) (part l (y * k) k) fit-x (y * k + i) (omega arith))
      (λ o. put-above (put_at l (y * k) (part l (x * k) k)) (x * k) (part l (y * k) k) fit-x (y * k + i) (omega (arith, long-y)))
      (rows_apart k y x ne)
      ∙ put-in l (y * k) (part l (x * k) k) fit-y i (omega (arith, long-x))
      ∙ part_at l (x * k) k i h

  -- the place i of row q holds what it held in the row that q changes with
  pub exchanged-at : (q i : ℕ) → i < k → get_or (exchanged l (y * k) (x * k) k) (q * k + i) 0 ≡ get_or l (exchange y x q * k + i) 0
  exchanged-at q i hi = by-test (eqb q y)
      (λ e. rw (e, eqb-true q y e) (at_y i hi))
      (λ n. rw n (by-test (eqb q x)
      (λ e. rw (e, eqb-true q x e) (at_x i hi))
      (λ m. rw m (elsewhere (q * k + i) (beside y (eqb-false q y n)) (beside x (eqb-false q x m))))))
    where
      beside : (z : ℕ) → (q ≡ z → ⊥) → (q * k + i < z * k) ⊎ (z * k + k ≤ q * k + i)
      beside z d = ⊎_elim (λ o. inl (omega arith)) (λ o. inr (omega arith)) (rows_apart k q z d)

  pub exchanged-past : (i : ℕ) → h * k ≤ i → get_or (exchanged l (y * k) (x * k) k) i 0 ≡ get_or l i 0
  exchanged-past i hi = elsewhere i (inr (omega (arith, row-end y h k hy))) (inr (omega (arith, row-end x h k hx)))

  -- so does the part of c places at row q
  pub exchanged-part : (q c : ℕ) → q < h → exchange y x q < h → c ≤ k → part (exchanged l (y * k) (x * k) k) (q * k) c ≡ part l (exchange y x q * k) c
  exchanged-part q c hq hz hc =
      ext_get_or 0 (part (exchanged l (y * k) (x * k) k) (q * k) c) (part l (exchange y x q * k) c)
      (left ∙ sym right)
      (λ i hi. let ic : i < c = omega (arith, left) in
      part_at (exchanged l (y * k) (x * k) k) (q * k) c i ic ∙ exchanged-at q i (omega arith) ∙ sym (part_at l (exchange y x q * k) c i ic))
    where
      left : length (part (exchanged l (y * k) (x * k) k) (q * k) c) ≡ c
      left = part_length (exchanged l (y * k) (x * k) k) (q * k) c (omega (arith, exchanged-length, row-end q h k hq))

      right : length (part l (exchange y x q * k) c) ≡ c
      right = part_length l (exchange y x q * k) c (end (exchange y x q) hz)
        where
          end : (z : ℕ) → z < h → z * k + c ≤ length l
          end z l' = omega (arith, row-end z h k l')
