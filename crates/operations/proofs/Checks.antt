-- One call for any operation: a question, a change beside the answer buffer, and the guard before either. Assumes nothing.
use mathlib.Core.Path.{◌≡◌, sym, ap, subst, ◌∙◌}
use mathlib.Core.Bool.{true, false, true≢false}
use mathlib.Core.List.{List, []}
use Prim.Native.Nat.{ℕ}
use Rattle.std.specs.Prelude as std
use Rattle.std.specs.Prelude.{IsErrAnd}
use Rattle.laws.proofs.Bools.{by-test}
use Rattle.table.specs.declared.Op.{Op}
use Rattle.table.specs.Room.{kind, is_make}
use Rattle.model.specs.Store.{Store}
use Rattle.model.specs.WellFormed.{WellFormed}
use Rattle.model.specs.Check.{well_formed}
use Rattle.model.specs.Step.{Result, inner, step, result_of}
use Rattle.store_head.specs.declared.refusal.Refusal.{Refusal}
use Rattle.store_head.specs.declared.refusal.Refusal.TheVariants as refusal
use Rattle.store_head.specs.Lent.{full_of}
use Rattle.store_head.specs.Told.{change_told}
use Rattle.store_head.proofs.Calls.{sound, damaged-result, whole, make-any}
use Rattle.store_check.specs.Guards.{Guards}
use Rattle.operations.specs.declared.Told.{Told}
use Rattle.operations.specs.declared.Told.TheVariants as told
use Rattle.operations.specs.Applied.{asks, Form, form, part_at, op_told, May}
use Rattle.operations.proofs.Arms.{aside}
use Rattle.operations.proofs.Others.{change-lists-none, change-form}

-- ---- a question is asked of the store as it is seen
pub asked-here : (o : Op) (v s : Store) → v ≡ s → (t : std.Result Told Refusal) (a b : List ℕ)
    → op_told (form o) (part_at o v) v t b ≡ result_of (full_of v a) (inner o (full_of v a)) → op_told (form o) (part_at o s) s t b ≡ result_of (full_of s a) (inner o (full_of s a))
asked-here o v s e t a b q = subst (λ (u : Store). op_told (form o) (part_at o u) u t b ≡ result_of (full_of u a) (inner o (full_of u a))) e q

-- ---- a change stands beside the answer buffer
module _ (o : Op) (n : asks o ≡ false) (at : ℕ) (u s : Store) (a : List ℕ) where
  pub change-done : change_told {A = Unit {0}} (std.Ok tt) u ≡ result_of (full_of s []) (inner o (full_of s []))
      → op_told (form o) at u (std.Ok told.Done) a ≡ result_of (full_of s a) (inner o (full_of s a))
  change-done q =
      rw (change-form o n) (ap (λ (t : Result). record { reply = t.reply; after = full_of t.after.store a }) q ∙ aside o (change-lists-none o n) s a)

  pub change-refused : (t : std.Result Told Refusal) (k : Refusal) → IsErrAnd t (λ j. j ≡ k) → change_told {A = Unit {0}} (std.Err k) u ≡ result_of (full_of s []) (inner o (full_of s []))
      → op_told (form o) at u t a ≡ result_of (full_of s a) (inner o (full_of s a))
  change-refused (std.Ok x) k h q = absurd h
  change-refused (std.Err j) k h q =
      ap (λ r. op_told (form o) at u (std.Err r) a) h ∙ ap (λ (t : Result). record { reply = t.reply; after = full_of t.after.store a }) q ∙ aside o (change-lists-none o n) s a

-- ---- the guard
pub may-make : (o : Op) (s : Store) → is_make (kind o) ≡ true → is_make (kind o) ≡ false → true ≡ well_formed s
may-make o s m n = absurd (true≢false (sym m ∙ n))

pub may : (o : Op) (s : Store) (r : std.Result (Unit {0}) Refusal) → is_make (kind o) ≡ false → Guards r s → May o s r
may o s (std.Ok x) n g = λ m. g
may o s (std.Err k) n g = (n, g)

module _ (o : Op) (s : Store) where
  pub go-ok : (is_make (kind o) ≡ false → true ≡ well_formed s) → is_make (kind o) ≡ false → WellFormed s
  go-ok m n = sound s (m n)

  pub gone : (is_make (kind o) ≡ false → true ≡ well_formed s) → (a : List ℕ) (r : Result) → r ≡ result_of (full_of s a) (inner o (full_of s a)) → r ≡ result_of (full_of s a) (step o (full_of s a))
  gone m a r q = q ∙ ap (result_of (full_of s a)) (by-test (is_make (kind o)) (λ t. make-any o (full_of s a) t) (λ n. whole o (full_of s a) (sym (m n))))

  pub stopped : (f : Form) (at : ℕ) (a : List ℕ) (t : std.Result Told Refusal) (k : Refusal) → IsErrAnd t (λ j. j ≡ k) → (is_make (kind o) ≡ false) × ((k ≡ refusal.Damaged) × (false ≡ well_formed s))
      → op_told f at s t a ≡ result_of (full_of s a) (step o (full_of s a))
  stopped f at a (std.Ok x) k h d = absurd h
  stopped f at a (std.Err j) k h d = ap (λ r. op_told f at s (std.Err r) a) (h ∙ d.1.0) ∙ damaged-result o (full_of s a) d.0 d.1.1
