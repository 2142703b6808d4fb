-- The number of a refusal, whichever function decides it: told for an operation by its kind, beside the answer buffer. Assumes nothing.
use mathlib.Core.Path.{◌≡◌, refl, sym, ap, subst, ◌∙◌}
use mathlib.Core.Bool.{true, false, true≢false}
use mathlib.Core.List.{List, []}
use mathlib.Core.Logic.{⊎_elim, ◌⊎◌}
use Prim.Native.Nat.{ℕ}
use Rattle.table.specs.declared.Op.{Op}
use Rattle.table.specs.declared.Op.TheVariants.{Make, Set, SwapR, SwapC, Add, On, Off, Freeze, Resize, Get, Count, Words, TailOnes, Iter, ColOnes, Size}
use Rattle.table.specs.Refusals.{Verdict, refused, done}
use Rattle.table.specs.Step.{answer}
use Rattle.table.specs.Room.{kind, listed, all_checks}
use Rattle.table.specs.Run.{ok, nay, reply_of}
use Rattle.model.specs.Store.{Store, Full, table_of, held_of}
use Rattle.model.specs.Step.{full_after, inner}
use Rattle.std.specs.Prelude as std
use Rattle.std.specs.Prelude.{IsErrAnd}
use Rattle.store_head.specs.declared.refusal.Refusal.{Refusal}
use Rattle.store_head.specs.Lent.{full_of}
use Rattle.store_head.specs.Refused.{refusal_of, refused_by, number_of}
use Rattle.store_head.proofs.Refuses.{same_number}
use Rattle.store_head.proofs.Replies.{number_in, never}

-- ---- the answer buffer decides nothing where no list is answered
aside : (o : Op) → listed (kind o) ≡ false → (s : Store) (a : List ℕ) → refusal_of (inner o (full_of s [])) ≡ refusal_of (inner o (full_of s a))
unfolding inner
aside (Make p) n s a = same_number (all_checks true (Make p) (held_of (full_of s a))) (full_after (Make p) (full_of s [])) (full_after (Make p) (full_of s a)) (answer (Make p) (table_of s)) (answer (Make p) (table_of s))
aside (Set p) n s a = same_number (all_checks true (Set p) (held_of (full_of s a))) (full_after (Set p) (full_of s [])) (full_after (Set p) (full_of s a)) (answer (Set p) (table_of s)) (answer (Set p) (table_of s))
aside (SwapR p) n s a = same_number (all_checks true (SwapR p) (held_of (full_of s a))) (full_after (SwapR p) (full_of s [])) (full_after (SwapR p) (full_of s a)) (answer (SwapR p) (table_of s)) (answer (SwapR p) (table_of s))
aside (SwapC p) n s a = same_number (all_checks true (SwapC p) (held_of (full_of s a))) (full_after (SwapC p) (full_of s [])) (full_after (SwapC p) (full_of s a)) (answer (SwapC p) (table_of s)) (answer (SwapC p) (table_of s))
aside (Add p) n s a = same_number (all_checks true (Add p) (held_of (full_of s a))) (full_after (Add p) (full_of s [])) (full_after (Add p) (full_of s a)) (answer (Add p) (table_of s)) (answer (Add p) (table_of s))
aside On n s a = same_number (all_checks true On (held_of (full_of s a))) (full_after On (full_of s [])) (full_after On (full_of s a)) (answer On (table_of s)) (answer On (table_of s))
aside Off n s a = same_number (all_checks true Off (held_of (full_of s a))) (full_after Off (full_of s [])) (full_after Off (full_of s a)) (answer Off (table_of s)) (answer Off (table_of s))
aside (Freeze p) n s a = same_number (all_checks true (Freeze p) (held_of (full_of s a))) (full_after (Freeze p) (full_of s [])) (full_after (Freeze p) (full_of s a)) (answer (Freeze p) (table_of s)) (answer (Freeze p) (table_of s))
aside (Resize p) n s a = same_number (all_checks true (Resize p) (held_of (full_of s a))) (full_after (Resize p) (full_of s [])) (full_after (Resize p) (full_of s a)) (answer (Resize p) (table_of s)) (answer (Resize p) (table_of s))
aside (Get p) n s a = same_number (all_checks true (Get p) (held_of (full_of s a))) (full_after (Get p) (full_of s [])) (full_after (Get p) (full_of s a)) (answer (Get p) (table_of s)) (answer (Get p) (table_of s))
aside (Count p) n s a = same_number (all_checks true (Count p) (held_of (full_of s a))) (full_after (Count p) (full_of s [])) (full_after (Count p) (full_of s a)) (answer (Count p) (table_of s)) (answer (Count p) (table_of s))
aside (Words p) n s a = same_number (all_checks true (Words p) (held_of (full_of s a))) (full_after (Words p) (full_of s [])) (full_after (Words p) (full_of s a)) (answer (Words p) (table_of s)) (answer (Words p) (table_of s))
aside (TailOnes p) n s a = absurd (true≢false n)
aside (Iter p) n s a = absurd (true≢false n)
aside (ColOnes p) n s a = absurd (true≢false n)
aside Size n s a = same_number (all_checks true Size (held_of (full_of s a))) (full_after Size (full_of s [])) (full_after Size (full_of s a)) (answer Size (table_of s)) (answer Size (table_of s))

-- o is p, for which the number was decided
pub as-refused : (o p : Op) → o ≡ p → (f : Full) (k : ℕ) → k ≡ refusal_of (inner p f) → k ≡ refusal_of (inner o f)
as-refused o p e f k q = q ∙ ap (λ (h : Op). refusal_of (inner h f)) (sym e)

pub beside-refused : (o p : Op) → o ≡ p → listed (kind p) ≡ false → (s : Store) (a : List ℕ) (k : ℕ) → k ≡ refusal_of (inner p (full_of s [])) → k ≡ refusal_of (inner o (full_of s a))
beside-refused o p e n s a k q = as-refused o p e (full_of s a) k (q ∙ aside p n s a)

-- ---- a question's answer holds its refusal
is_number : (v : Verdict Full) (k : ℕ) → nay k ≡ reply_of v → k ≡ refusal_of v
unfolding number_in
is_number (refused j) k e = ap number_in e
is_number (done f a) k e = never a k (sym e)

is_none : (v : Verdict Full) (l : List ℕ) → ok l ≡ reply_of v → 0 ≡ refusal_of v
is_none (refused j) l e = never l j e
is_none (done g a) l e = refl

-- of the store s, seen as v
module _ (o p : Op) (e : o ≡ p) (n : listed (kind p) ≡ false) (v s : Store) (same : v ≡ s) (a : List ℕ) where
  pub asked-free : (l : List ℕ) → ok l ≡ reply_of (inner p (full_of v [])) → 0 ≡ refusal_of (inner o (full_of s a))
  asked-free l q = beside-refused o p e n s a 0 (subst (λ (u : Store). 0 ≡ refusal_of (inner p (full_of u []))) same (is_none (inner p (full_of v [])) l q))

  pub asked-refused : (t : std.Result (Unit {0}) Refusal) (k : Refusal) → IsErrAnd t (λ j. j ≡ k) → nay (number_of k) ≡ reply_of (inner p (full_of v [])) → refused_by t ≡ refusal_of (inner o (full_of s a))
  asked-refused (std.Ok x) k h q = absurd h
  asked-refused (std.Err j) k h q =
      ap number_of h ∙ beside-refused o p e n s a (number_of k) (subst (λ (u : Store). number_of k ≡ refusal_of (inner p (full_of u []))) same (is_number (inner p (full_of v [])) (number_of k) q))

-- ---- nothing refuses OFF or SIZE
pub off-free : (s : Store) → 0 ≡ refusal_of (inner Off (full_of s []))
unfolding inner
off-free s = refl

pub size-free : (s : Store) → 0 ≡ refusal_of (inner Size (full_of s []))
unfolding inner
size-free s = refl

pub free-of-two : (o : Op) → (o ≡ Off) ⊎ (o ≡ Size) → (s : Store) (a : List ℕ) → 0 ≡ refusal_of (inner o (full_of s a))
free-of-two o h s a = ⊎_elim (λ e. beside-refused o Off e refl s a 0 (off-free s)) (λ e. beside-refused o Size e refl s a 0 (size-free s)) h
