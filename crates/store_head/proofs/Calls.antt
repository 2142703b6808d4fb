-- A public call checks the store: a damaged one is refused with 1, else the call is its inner twin. Assumes nothing.
use mathlib.Core.Path.{◌≡◌, refl, sym, ap, ◌∙◌}
use mathlib.Core.Bool.{Bool, true, false}
use mathlib.Core.List.{List, []}
use Prim.Native.Nat.{ℕ}
use Rattle.table.specs.declared.Op.{Op}
use Rattle.table.specs.Refusals.{Check, refused, done, outcome}
use Rattle.table.specs.Step.{answer}
use Rattle.table.specs.Room.{Held, kind, is_make, all_checks}
use Rattle.table.specs.Run.{Reply, nay, reply_of}
use Rattle.model.specs.Store.{Store, Full, table_of, held_of}
use Rattle.model.specs.WellFormed.{WellFormed}
use Rattle.model.specs.Check.{well_formed}
use Rattle.model.specs.Step.{Result, result_of, full_after, step, inner}
use Rattle.model.proofs.Check.{check_sound}
use Rattle.store_head.specs.Told.{handed}

module _ (o : Op) (f : Full) where
  pub damaged : is_make (kind o) ≡ false → well_formed f.store ≡ false → step o f ≡ refused 1
  unfolding step
  damaged n w = rw (w, n)

  pub whole : well_formed f.store ≡ true → inner o f ≡ step o f
  unfolding step inner
  whole w = ap (λ (b : Bool). outcome (all_checks b o (held_of f)) (done (full_after o f) (answer o (table_of f.store)))) (sym w)

  -- what a caller sees of it
  pub damaged-reply : is_make (kind o) ≡ false → false ≡ well_formed f.store → nay 1 ≡ reply_of (step o f)
  damaged-reply n w = sym (ap reply_of (damaged n (sym w)))

  pub damaged-result : is_make (kind o) ≡ false → false ≡ well_formed f.store → record { reply = nay 1; after = f } ≡ result_of f (step o f)
  damaged-result n w = sym (ap (result_of f) (damaged n (sym w)))

  pub whole-reply : (r : Reply) → true ≡ well_formed f.store → r ≡ reply_of (inner o f) → r ≡ reply_of (step o f)
  whole-reply r w e = e ∙ ap reply_of (whole (sym w))

  pub whole-result : (r : Result) → true ≡ well_formed f.store → r ≡ result_of f (inner o f) → r ≡ result_of f (step o f)
  whole-result r w e = e ∙ ap (result_of f) (whole (sym w))

  -- the part that WORDS hands back
  pub damaged-handed : is_make (kind o) ≡ false → false ≡ well_formed f.store → [] ≡ handed (reply_of (step o f))
  damaged-handed n w = ap handed (damaged-reply n w)

  pub whole-handed : (l : List ℕ) → true ≡ well_formed f.store → l ≡ handed (reply_of (inner o f)) → l ≡ handed (reply_of (step o f))
  whole-handed l w e = e ∙ ap handed (ap reply_of (whole (sym w)))

pub sound : (s : Store) → true ≡ well_formed s → WellFormed s
sound s w = check_sound s (sym w)

-- ---- MAKE asks for no well-formed store
make-checks : (b : Bool) (o : Op) → is_make (kind o) ≡ true → (h : Held) → all_checks true o h ≡ all_checks b o h
make-checks true o m h = refl
make-checks false o m h = rw m

pub make-any : (o : Op) (f : Full) → is_make (kind o) ≡ true → inner o f ≡ step o f
unfolding step inner
make-any o f m = ap (λ (cs : List Check). outcome cs (done (full_after o f) (answer o (table_of f.store)))) (make-checks (well_formed f.store) o m (held_of f))
