-- Any two outcomes that the contract of one call admits are equal: what is told, the head and every lent number. Assumes nothing.
use mathlib.Core.Path.{◌≡◌, refl, sym, ap, ◌∙◌}
use mathlib.Core.Bool.{true, false}
use mathlib.Core.List.{List, [], ◌∷◌}
use Prim.Native.Nat.{ℕ, ◌<◌}
use native.Mathlib.Omega.{arith}
use lib.ListN.{length, get_or}
use Rattle.laws.proofs.Parts.{stretch-length}
use Rattle.table.specs.declared.Op.{Op}
use Rattle.table.specs.Refusals.{Check, ◌when◌, done as accepted, outcome}
use Rattle.table.specs.Step.{answer}
use Rattle.table.specs.Room.{all_checks}
use Rattle.table.specs.Run.{Reply, ok, nay, reply_of}
use Rattle.model.specs.Store.{Full, table_of, held_of}
use Rattle.model.specs.Check.{well_formed}
use Rattle.model.specs.Step.{Result, full_after, step, result_of}
use Rattle.std.specs.Prelude as std
use Rattle.store_head.specs.declared.refusal.Refusal.{Refusal}
use Rattle.store_head.specs.declared.store.StoreMut.{StoreMut}
use Rattle.store_head.specs.Lent.{lent}
use Rattle.store_head.specs.Refused.{number_of}
use Rattle.store_head.proofs.Refuses.{counted, same-refusal}
use Rattle.store_head.proofs.Replies.{number_in, never}
use Rattle.store_head.proofs.Slices.{lists, same_head}
use Rattle.operations.specs.declared.Told.{Told}
use Rattle.operations.specs.declared.Told.TheVariants as told
use Rattle.operations.specs.Applied.{Form, done, number, sizes, list, words, form, says_told, says, op_told}

-- ---- what is told, from the reply and the operation's form
back : Reply → Form → Told
back (nay k) f = told.Done
back (ok l) done = told.Done
back (ok l) number = told.Number (get_or l 0 0)
back (ok l) sizes = told.Sizes (record { h = get_or l 0 0; w = get_or l 1 0; n = get_or l 2 0 })
back (ok l) list = told.List (length l)
back (ok l) words = told.Words (length l)

read_back : (t : Told) (f : Form) (at : ℕ) (ws answers : List ℕ) → (says_told t f at ws answers ≡ nay 0 → ⊥) → t ≡ back (says_told t f at ws answers) f
unfolding back
read_back told.Done done at ws answers n = refl
read_back told.Done number at ws answers n = absurd (n refl)
read_back told.Done sizes at ws answers n = absurd (n refl)
read_back told.Done list at ws answers n = absurd (n refl)
read_back told.Done words at ws answers n = absurd (n refl)
read_back (told.Number x) done at ws answers n = absurd (n refl)
read_back (told.Number x) number at ws answers n = refl
read_back (told.Number x) sizes at ws answers n = absurd (n refl)
read_back (told.Number x) list at ws answers n = absurd (n refl)
read_back (told.Number x) words at ws answers n = absurd (n refl)
read_back (told.Sizes p) done at ws answers n = absurd (n refl)
read_back (told.Sizes p) number at ws answers n = absurd (n refl)
read_back (told.Sizes p) sizes at ws answers n = refl
read_back (told.Sizes p) list at ws answers n = absurd (n refl)
read_back (told.Sizes p) words at ws answers n = absurd (n refl)
read_back (told.List c) done at ws answers n = absurd (n refl)
read_back (told.List c) number at ws answers n = absurd (n refl)
read_back (told.List c) sizes at ws answers n = absurd (n refl)
read_back (told.List c) list at ws answers n = ap told.List (sym (stretch-length answers 0 c))
read_back (told.List c) words at ws answers n = absurd (n refl)
read_back (told.Words c) done at ws answers n = absurd (n refl)
read_back (told.Words c) number at ws answers n = absurd (n refl)
read_back (told.Words c) sizes at ws answers n = absurd (n refl)
read_back (told.Words c) list at ws answers n = absurd (n refl)
read_back (told.Words c) words at ws answers n = ap told.Words (sym (stretch-length ws at c))

-- what is told is no refusal
told-not : (t : Told) (f : Form) (at : ℕ) (ws answers : List ℕ) (k : Refusal) → (says_told t f at ws answers ≡ nay 0 → ⊥) → says_told t f at ws answers ≡ nay (number_of k) → ⊥
told-not told.Done done at ws answers k n q = never _ _ q
told-not told.Done number at ws answers k n q = n refl
told-not told.Done sizes at ws answers k n q = n refl
told-not told.Done list at ws answers k n q = n refl
told-not told.Done words at ws answers k n q = n refl
told-not (told.Number z) done at ws answers k n q = n refl
told-not (told.Number z) number at ws answers k n q = never _ _ q
told-not (told.Number z) sizes at ws answers k n q = n refl
told-not (told.Number z) list at ws answers k n q = n refl
told-not (told.Number z) words at ws answers k n q = n refl
told-not (told.Sizes p) done at ws answers k n q = n refl
told-not (told.Sizes p) number at ws answers k n q = n refl
told-not (told.Sizes p) sizes at ws answers k n q = never _ _ q
told-not (told.Sizes p) list at ws answers k n q = n refl
told-not (told.Sizes p) words at ws answers k n q = n refl
told-not (told.List c) done at ws answers k n q = n refl
told-not (told.List c) number at ws answers k n q = n refl
told-not (told.List c) sizes at ws answers k n q = n refl
told-not (told.List c) list at ws answers k n q = never _ _ q
told-not (told.List c) words at ws answers k n q = n refl
told-not (told.Words c) done at ws answers k n q = n refl
told-not (told.Words c) number at ws answers k n q = n refl
told-not (told.Words c) sizes at ws answers k n q = n refl
told-not (told.Words c) list at ws answers k n q = n refl
told-not (told.Words c) words at ws answers k n q = never _ _ q

-- ---- no refusal has the number 0
refusal : Reply → ℕ
refusal (ok l) = 1
refusal (nay k) = k

numbered-reply : (cs : List Check) (f : Full) (l : List ℕ) → 0 < refusal (reply_of (outcome cs (accepted f l)))
unfolding refusal
numbered-reply [] f l = omega arith
numbered-reply ((k when true) ∷ cs) f l = counted k
numbered-reply ((k when false) ∷ cs) f l = numbered-reply cs f l

pub never-zero : (o : Op) (f : Full) → reply_of (step o f) ≡ nay 0 → ⊥
unfolding step refusal
never-zero o f e =
    omega (arith, ap refusal e, numbered-reply (all_checks (well_formed f.store) o (held_of f)) (full_after o f) (answer o (table_of f.store)))

-- ---- two outcomes
same-told : (f : Form) (at : ℕ) (v w x y : List ℕ) (a b : std.Result Told Refusal) → (says a f at v x ≡ nay 0 → ⊥) → says a f at v x ≡ says b f at w y → a ≡ b
unfolding number_in
same-told f at v w x y (std.Ok t) (std.Ok u) n q =
    ap (λ z. std.Ok z) (read_back t f at v x n ∙ ap (λ r. back r f) q ∙ sym (read_back u f at w y (λ z. n (q ∙ z))))
same-told f at v w x y (std.Ok t) (std.Err k) n q = absurd (told-not t f at v x k n q)
same-told f at v w x y (std.Err k) (std.Ok t) n q = absurd (told-not t f at w y k (λ z. n (q ∙ z)) (sym q))
same-told f at v w x y (std.Err k) (std.Err j) n q = ap (λ z. std.Err z) (same-refusal k j (ap number_in q))

pub call-determined : (o : Op) (f : Full) (at : ℕ) (a b : std.Result Told Refusal) (s t : StoreMut) (x y : List ℕ)
    → op_told (form o) at (lent s) a x ≡ result_of f (step o f) → op_told (form o) at (lent t) b y ≡ result_of f (step o f)
    → (a ≡ b) × ((s.head ≡ t.head) × ((lists (lent s) ≡ lists (lent t)) × (x ≡ y)))
call-determined o f at a b s t x y p q =
    (same-told (form o) at s.words.now t.words.now x y a b (λ z. never-zero o f (sym (ap (λ (r : Result). r.reply) p) ∙ z)) (ap (λ (r : Result). r.reply) both), (same_head s.head t.head (ap (λ (r : Result). r.after.store.head) both), (ap (λ (r : Result). lists r.after.store) both, ap (λ (r : Result). r.after.answers) both)))
  where
    both : op_told (form o) at (lent s) a x ≡ op_told (form o) at (lent t) b y
    both = p ∙ sym q
