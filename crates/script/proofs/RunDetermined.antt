-- RUN-DETERMINED: any two outcomes that the contract of a run admits are equal, in the answer, the head, every lent number, the answer buffer and every
-- line byte. Assumes nothing.
use mathlib.Core.Path.{◌≡◌, refl, sym, ap, ◌∙◌}
use mathlib.Core.List.{List}
use Prim.Native.Nat.{ℕ}
use Rattle.std.specs.Prelude.{Result, Ok, Err}
use Rattle.model.specs.Store.{Full}
use Rattle.store_head.specs.declared.refusal.Refusal.{Refusal}
use Rattle.store_head.specs.declared.store.StoreMut.{StoreMut}
use Rattle.store_head.specs.Lent.{lent, full_of}
use Rattle.store_head.proofs.Refuses.{same-refusal}
use Rattle.store_head.proofs.Replies.{number_in, values, value, never}
use Rattle.store_head.proofs.Slices.{lists, same_head}
use Rattle.script.specs.declared.Stand.{Stand}
use Rattle.script.specs.Left.{Left, ran_told, run_of}

-- what is told
told_same : (x y : Result Stand Refusal) (f g : Full) (p q : List ℕ) → ran_told x f p ≡ ran_told y g q → x ≡ y
unfolding number_in values value
told_same (Ok x) (Ok y) f g p q e = λ i. Ok (record { done = value 0 (e i).reply; written = value 1 (e i).reply })
told_same (Err j) (Err k) f g p q e = ap Err (same-refusal j k (ap (λ (r : Left). number_in r.reply) e))
told_same (Ok x) (Err k) f g p q e = never _ _ (ap (λ (r : Left). r.reply) e)
told_same (Err j) (Ok y) f g p q e = never _ _ (sym (ap (λ (r : Left). r.reply) e))

-- what is left
left_is : (x : Result Stand Refusal) (f : Full) (p : List ℕ) → ((ran_told x f p).after ≡ f) × ((ran_told x f p).lines ≡ p)
left_is (Ok x) f p = (refl, refl)
left_is (Err k) f p = (refl, refl)

pub run-determined : (s out : List ℕ) (f : Full) (x y : Result Stand Refusal) (u v : StoreMut) (a b p q : List ℕ)
    → ran_told x (full_of (lent u) a) p ≡ run_of s out f → ran_told y (full_of (lent v) b) q ≡ run_of s out f
    → (x ≡ y) × ((u.head ≡ v.head) × ((lists (lent u) ≡ lists (lent v)) × ((a ≡ b) × (p ≡ q))))
run-determined s out f x y u v a b p q g h =
    (told_same x y (full_of (lent u) a) (full_of (lent v) b) p q both, (same_head u.head v.head (ap (λ (r : Full). r.store.head) after), (ap (λ (r : Full). lists r.store) after, (ap (λ (r : Full). r.answers) after, lines))))
  where
    both : ran_told x (full_of (lent u) a) p ≡ ran_told y (full_of (lent v) b) q
    both = g ∙ sym h

    after : full_of (lent u) a ≡ full_of (lent v) b
    after = sym (left_is x (full_of (lent u) a) p).0 ∙ ap (λ (r : Left). r.after) both ∙ (left_is y (full_of (lent v) b) q).0

    lines : p ≡ q
    lines = sym (left_is x (full_of (lent u) a) p).1 ∙ ap (λ (r : Left). r.lines) both ∙ (left_is y (full_of (lent v) b) q).1
