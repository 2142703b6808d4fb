-- A call on a damaged store: the guard's refusal, handed on by `?`, is the model's. Assumes nothing.
use mathlib.Core.Path.{◌≡◌, ap, ◌∙◌}
use mathlib.Core.Bool.{true, false}
use mathlib.Core.List.{List, []}
use Prim.Native.Nat.{ℕ}
use Rattle.std.specs.Prelude as std
use Rattle.std.specs.Prelude.{IsErrAnd}
use Rattle.table.specs.declared.Op.{Op}
use Rattle.table.specs.Room.{kind, is_make}
use Rattle.table.specs.Run.{Reply, nay, reply_of}
use Rattle.model.specs.Store.{Store}
use Rattle.model.specs.WellFormed.{WellFormed}
use Rattle.model.specs.Step.{Result, result_of, step, inner}
use Rattle.model.specs.Check.{well_formed}
use Rattle.store_head.specs.declared.refusal.Refusal.{Refusal}
use Rattle.store_head.specs.declared.refusal.Refusal.TheVariants as refusal
use Rattle.store_head.specs.Lent.{full_of}
use Rattle.store_head.specs.Refused.{number_of}
use Rattle.store_head.specs.Told.{change_told, list_told}
use Rattle.store_head.proofs.Calls.{damaged-result, damaged-reply, sound, whole-result}

module _ (o : Op) (s : Store) where
  pub damaged-on : (r : std.Result (Unit {0}) Refusal) (k : Refusal) → IsErrAnd r (λ e. e ≡ k) → is_make (kind o) ≡ false → (k ≡ refusal.Damaged) × (false ≡ well_formed s)
      → ◌≡◌ {A = Result} (change_told r s) (result_of (full_of s []) (step o (full_of s [])))
  damaged-on (std.Ok x) k h m d = absurd h
  damaged-on (std.Err j) k h m d = ap (λ i. change_told {A = Unit {0}} (std.Err i) s) (h ∙ d.0) ∙ damaged-result o (full_of s []) m d.1

  -- of any kind of answer
  pub damaged-says : {A : Type 0} (says : std.Result A Refusal → Reply) (r : std.Result A Refusal) (k : Refusal) → ((j : Refusal) → says (std.Err j) ≡ nay (number_of j)) → IsErrAnd r (λ e. e ≡ k)
      → is_make (kind o) ≡ false → (k ≡ refusal.Damaged) × (false ≡ well_formed s) → says r ≡ reply_of (step o (full_of s []))
  damaged-says says (std.Ok x) k n h m d = absurd h
  damaged-says says (std.Err j) k n h m d = n j ∙ ap (λ i. nay (number_of i)) (h ∙ d.0) ∙ damaged-reply o (full_of s []) m d.1

  pub damaged-list : (r : std.Result ℕ Refusal) (k : Refusal) (a : List ℕ) → IsErrAnd r (λ e. e ≡ k) → is_make (kind o) ≡ false → (k ≡ refusal.Damaged) × (false ≡ well_formed s)
      → ◌≡◌ {A = Result} (list_told s r a) (result_of (full_of s a) (step o (full_of s a)))
  damaged-list (std.Ok x) k a h m d = absurd h
  damaged-list (std.Err j) k a h m d = ap (λ i. list_told s (std.Err i) a) (h ∙ d.0) ∙ damaged-result o (full_of s a) m d.1

-- ---- a change checks the store s as it is seen, v
pub sound-seen : (v s : Store) → v ≡ s → true ≡ well_formed v → WellFormed s
sound-seen v s e w = sound s (w ∙ ap well_formed e)

module _ (o : Op) (v s : Store) (e : v ≡ s) where
  pub damaged-seen : (r : std.Result (Unit {0}) Refusal) (k : Refusal) → IsErrAnd r (λ e. e ≡ k) → is_make (kind o) ≡ false → (k ≡ refusal.Damaged) × (false ≡ well_formed v)
      → ◌≡◌ {A = Result} (change_told r s) (result_of (full_of s []) (step o (full_of s [])))
  damaged-seen r k h m d = damaged-on o s r k h m (d.0, d.1 ∙ ap well_formed e)

  pub done-seen : true ≡ well_formed v → (r : Result) → r ≡ result_of (full_of s []) (inner o (full_of s [])) → r ≡ result_of (full_of s []) (step o (full_of s []))
  done-seen w r q = whole-result o (full_of s []) r (w ∙ ap well_formed e) q
