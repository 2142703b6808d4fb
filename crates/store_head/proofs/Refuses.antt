-- The number of a refusal, 0 for none: where it is 0 every check passes and the call is done, else it is what the caller is told. Assumes nothing.
use mathlib.Core.Path.{◌≡◌, refl, sym, ap, subst, ◌∙◌}
use mathlib.Core.Bool.{true, false}
use mathlib.Core.List.{List, [], ◌∷◌}
use Prim.Native.Nat.{ℕ, ◌-◌, ◌<◌}
use lib.ListN.{get_or}
use native.Mathlib.Omega.{arith}
use Rattle.table.specs.declared.Op.{Op}
use Rattle.table.specs.Refusals.{Refusal, DAMAGED, SIZE, BUFFERS, ROW, COLUMN, SIDE, SAME, SHRINK, PHASE, SINGLE, SPENT, SLOTS, WORDS, ENTRIES, ANSWER, RECORD, CUT, number, Check, ◌when◌, Verdict, refused, done, outcome}
use Rattle.table.specs.Step.{checks, answer}
use Rattle.table.specs.Room.{room_checks, all_checks, passes}
use Rattle.table.specs.Run.{ok, nay}
use Rattle.table.proofs.Checks.{pass}
use Rattle.model.specs.Store.{Store, Full, table_of, held_of}
use Rattle.model.specs.Step.{Result, full_after, inner, result_of}
use Rattle.model.proofs.EveryStepIsTheTables.{passes_append}
use Rattle.store_head.specs.Lent.{full_of}
use Rattle.store_head.specs.Told.{change_told}
use Rattle.std.specs.Prelude as err
use Rattle.std.specs.Prelude.{IsErrAnd}
use Rattle.store_head.specs.declared.refusal.Refusal as code
use Rattle.store_head.specs.declared.refusal.Refusal.TheVariants as refusal
use Rattle.store_head.specs.Refused.{refusal_of}
use Rattle.store_head.specs.Refused as by
use Rattle.store_head.proofs.Ends.{Refuses, Leaves}
use Rattle.store_head.proofs.Replies.{number_in, never}

-- no refusal has the number 0
pub counted : (k : Refusal) → 0 < number k
counted DAMAGED = omega arith
counted SIZE = omega arith
counted BUFFERS = omega arith
counted ROW = omega arith
counted COLUMN = omega arith
counted SIDE = omega arith
counted SAME = omega arith
counted SHRINK = omega arith
counted PHASE = omega arith
counted SINGLE = omega arith
counted SPENT = omega arith
counted SLOTS = omega arith
counted WORDS = omega arith
counted ENTRIES = omega arith
counted ANSWER = omega arith
counted RECORD = omega arith
counted CUT = omega arith

passed : (cs : List Check) (f : Full) (a : List ℕ) → 0 ≡ refusal_of (outcome cs (done f a)) → passes cs ≡ true
passed [] f a e = refl
passed ((k when true) ∷ cs) f a e = absurd (omega (arith, counted k))
passed ((k when false) ∷ cs) f a e = passed cs f a e

-- not refused: every check passes
pub past : (o : Op) (f : Full) → 0 ≡ refusal_of (inner o f)
    → (passes (checks o (table_of f.store)) ≡ true) × (passes (room_checks (held_of f).room o (table_of f.store)) ≡ true)
unfolding inner
past o f e = passes_append (checks o (table_of f.store)) (room_checks (held_of f).room o (table_of f.store)) (passed (all_checks true o (held_of f)) (full_after o f) (answer o (table_of f.store)) e)

-- not refused: the call is done
pub accepted : (o : Op) (f : Full) → 0 ≡ refusal_of (inner o f)
    → result_of f (inner o f) ≡ record { reply = ok (answer o (table_of f.store)); after = full_after o f }
unfolding inner
accepted o f e = ap (result_of f) (pass (all_checks true o (held_of f)) (done (full_after o f) (answer o (table_of f.store))) (passed (all_checks true o (held_of f)) (full_after o f) (answer o (table_of f.store)) e))

told : (v : Verdict Full) (f : Full) (k : ℕ) → k ≡ refusal_of v → (k ≡ 0 → ⊥) → ◌≡◌ {A = Result} (record { reply = nay k; after = f }) (result_of f v)
told (refused j) f k e n = rw e
told (done u a) f k e n = absurd (n e)

-- no refusal of the code has the number 0 either
positive : (k : code.Refusal) → 0 < by.number_of k
positive refusal.Damaged = omega arith
positive refusal.Size = omega arith
positive refusal.Buffers = omega arith
positive refusal.Row = omega arith
positive refusal.Column = omega arith
positive refusal.Side = omega arith
positive refusal.Same = omega arith
positive refusal.Shrink = omega arith
positive refusal.Phase = omega arith
positive refusal.Single = omega arith
positive refusal.Spent = omega arith
positive refusal.Slots = omega arith
positive refusal.Words = omega arith
positive refusal.Entries = omega arith
positive refusal.Answer = omega arith
positive refusal.Record = omega arith
positive refusal.Cut = omega arith

-- refused: the caller is told the number, and nothing is changed
pub refuses : (o : Op) (f : Full) (k : ℕ) → k ≡ refusal_of (inner o f) → (k ≡ 0 → ⊥) → ◌≡◌ {A = Result} (record { reply = nay k; after = f }) (result_of f (inner o f))
refuses o f k e n = told (inner o f) f k e n

-- the same, of the error that the code hands back
pub refused-by : (o : Op) (f : Full) (k : code.Refusal) → by.number_of k ≡ refusal_of (inner o f) → ◌≡◌ {A = Result} (record { reply = nay (by.number_of k); after = f }) (result_of f (inner o f))
refused-by o f k e = told (inner o f) f (by.number_of k) e (λ z. absurd (omega (arith, positive k, z)))

-- ---- the number alone

-- told a number: it is the refusal's
of-refused : (v : Verdict Full) (f : Full) (k : ℕ) → ◌≡◌ {A = Result} (record { reply = nay k; after = f }) (result_of f v) → k ≡ refusal_of v
unfolding number_in
of-refused (refused j) f k e = ap (λ (r : Result). number_in r.reply) e
of-refused (done u a) f k e = never a k (ap (λ (r : Result). r.reply) (sym e))

-- told that it is done: there is none
of-done : (v : Verdict Full) (f g : Full) (l : List ℕ) → ◌≡◌ {A = Result} (record { reply = ok l; after = g }) (result_of f v) → 0 ≡ refusal_of v
of-done (refused j) f g l e = never l j (ap (λ (r : Result). r.reply) e)
of-done (done u a) f g l e = refl

pub number-told : (o : Op) (f : Full) (k : ℕ) → ◌≡◌ {A = Result} (record { reply = nay k; after = f }) (result_of f (inner o f)) → k ≡ refusal_of (inner o f)
number-told o f k e = of-refused (inner o f) f k e

pub none_told : (o : Op) (f g : Full) (l : List ℕ) → ◌≡◌ {A = Result} (record { reply = ok l; after = g }) (result_of f (inner o f)) → 0 ≡ refusal_of (inner o f)
none_told o f g l e = of-done (inner o f) f g l e

pub number_of : (o : Op) (s : Store) (k : ℕ) → Refuses inner o s k → k ≡ refusal_of (inner o (full_of s []))
number_of o s k e = number-told o (full_of s []) k e

pub none_of : (o : Op) (s u : Store) → Leaves inner o s u → 0 ≡ refusal_of (inner o (full_of s []))
none_of o s u e = none_told o (full_of s []) (full_of u []) [] e

-- the checks alone decide it
pub same_number : (cs : List Check) (f g : Full) (a b : List ℕ) → refusal_of (outcome cs (done f a)) ≡ refusal_of (outcome cs (done g b))
same_number [] f g a b = refl
same_number ((k when true) ∷ cs) f g a b = refl
same_number ((k when false) ∷ cs) f g a b = same_number cs f g a b

-- asked of the store s as it is seen, v
pub seen-refused : (o : Op) (v s : Store) → v ≡ s → (k : ℕ) → k ≡ refusal_of (inner o (full_of v [])) → k ≡ refusal_of (inner o (full_of s []))
seen-refused o v s e k q = subst (λ (u : Store). k ≡ refusal_of (inner o (full_of u []))) e q

-- `?`: a refusal is handed on as it is, and nothing is changed
pub handed-on : (o : Op) (s : Store) (r : err.Result (Unit {0}) code.Refusal) (k : code.Refusal) → IsErrAnd r (λ e. e ≡ k) → by.number_of k ≡ refusal_of (inner o (full_of s []))
    → ◌≡◌ {A = Result} (change_told r s) (result_of (full_of s []) (inner o (full_of s [])))
handed-on o s (err.Ok x) k h e = absurd h
handed-on o s (err.Err j) k h e = refused-by o (full_of s []) j (ap by.number_of h ∙ e)

-- ---- a refusal is known by its number
named : ℕ → code.Refusal
named n = get_or (refusal.Damaged ∷ refusal.Size ∷ refusal.Buffers ∷ refusal.Row ∷ refusal.Column ∷ refusal.Side ∷ refusal.Same ∷ refusal.Shrink ∷ refusal.Phase ∷ refusal.Single ∷ refusal.Spent ∷ refusal.Slots ∷ refusal.Words ∷ refusal.Entries ∷ refusal.Answer ∷ refusal.Record ∷ refusal.Cut ∷ []) (n - 1) refusal.Damaged

known : (k : code.Refusal) → named (by.number_of k) ≡ k
unfolding named
known refusal.Damaged = refl
known refusal.Size = refl
known refusal.Buffers = refl
known refusal.Row = refl
known refusal.Column = refl
known refusal.Side = refl
known refusal.Same = refl
known refusal.Shrink = refl
known refusal.Phase = refl
known refusal.Single = refl
known refusal.Spent = refl
known refusal.Slots = refl
known refusal.Words = refl
known refusal.Entries = refl
known refusal.Answer = refl
known refusal.Record = refl
known refusal.Cut = refl

pub same-refusal : (j k : code.Refusal) → by.number_of j ≡ by.number_of k → j ≡ k
same-refusal j k e = sym (known j) ∙ ap named e ∙ known k
