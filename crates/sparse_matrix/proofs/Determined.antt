-- Any two outcomes that a public contract admits are equal: the answer, the head and every lent number. Assumes nothing.
use mathlib.Core.Path.{◌≡◌, refl, sym, ap, ◌∙◌}
use mathlib.Core.List.{List}
use Prim.Native.Nat.{ℕ}
use lib.ListN.{length}
use Rattle.std.specs.Prelude.{Result, Ok, Err}
use Rattle.std.specs.Borrow.{Bor}
use Rattle.laws.proofs.Parts.{stretch-length}
use Rattle.table.specs.Run.{Reply}
use Rattle.model.specs.Store as model
use Rattle.model.specs.Step as step
use Rattle.store_head.specs.declared.refusal.Refusal.{Refusal}
use Rattle.store_head.specs.declared.Size.{Size}
use Rattle.store_head.specs.declared.Numbers.{Numbers}
use Rattle.store_head.specs.declared.store.StoreMut.{StoreMut}
use Rattle.store_head.specs.Lent.{lent, head_of}
use Rattle.store_head.specs.Told.{number_says, size_says, list_told, change_told, words_says, handed}
use Rattle.store_head.proofs.Refuses.{same-refusal}
use Rattle.store_head.proofs.Replies.{number_in, values, value, never}
use Rattle.store_head.proofs.Slices.{lists, same_head}

-- ---- GET, COUNT
pub number-determined : (x y : Result ℕ Refusal) (r : Reply) → number_says x ≡ r → number_says y ≡ r → x ≡ y
unfolding number_in values value
number-determined (Ok x) (Ok y) r p q = ap (λ n. Ok n) (ap (value 0) (p ∙ sym q))
number-determined (Ok x) (Err k) r p q = never _ _ (p ∙ sym q)
number-determined (Err k) (Ok y) r p q = never _ _ (q ∙ sym p)
number-determined (Err k) (Err j) r p q = ap (λ n. Err n) (same-refusal k j (ap number_in (p ∙ sym q)))

-- ---- SIZE
pub size-determined : (x y : Result Size Refusal) (r : Reply) → size_says x ≡ r → size_says y ≡ r → x ≡ y
unfolding number_in values value
size-determined (Ok x) (Ok y) r p q = ap (λ n. Ok n) same
  where
    h-same : x.h ≡ y.h
    h-same = ap (value 0) (p ∙ sym q)

    w-same : x.w ≡ y.w
    w-same = ap (value 1) (p ∙ sym q)

    n-same : x.n ≡ y.n
    n-same = ap (value 2) (p ∙ sym q)

    same : x ≡ y
    same i = record { h = h-same i; w = w-same i; n = n-same i }
size-determined (Ok x) (Err k) r p q = never _ _ (p ∙ sym q)
size-determined (Err k) (Ok y) r p q = never _ _ (q ∙ sym p)
size-determined (Err k) (Err j) r p q = ap (λ n. Err n) (same-refusal k j (ap number_in (p ∙ sym q)))

-- ---- WORDS: the words, or the refusal
abbrev pub words_in : Result (Bor (List ℕ)) Refusal → Result (List ℕ) Refusal
words_in (Ok ws) = Ok ws.now
words_in (Err k) = Err k

pub words-determined : (x y : Result (Bor (List ℕ)) Refusal) (r : Reply) → words_says x ≡ r → words_says y ≡ r → words_in x ≡ words_in y
unfolding number_in values
words-determined (Ok c) (Ok d) r p q = ap (λ t. Ok (values t)) (p ∙ sym q)
words-determined (Ok c) (Err k) r p q = never _ _ (p ∙ sym q)
words-determined (Err k) (Ok d) r p q = never _ _ (q ∙ sym p)
words-determined (Err k) (Err j) r p q = ap (λ n. Err n) (same-refusal k j (ap number_in (p ∙ sym q)))

-- .. and the part that the call that can't fail hands back
pub part-determined : (l m : List ℕ) (r : Reply) → l ≡ handed r → m ≡ handed r → l ≡ m
part-determined l m r p q = p ∙ sym q

-- ---- ITER, TAILONES, COLONES: the count, and every number of the answer buffer
pub list-determined : (s : model.Store) (x y : Result ℕ Refusal) (a b : List ℕ) (r : step.Result) → list_told s x a ≡ r → list_told s y b ≡ r → (x ≡ y) × (a ≡ b)
unfolding number_in values
list-determined s (Ok c) (Ok d) a b r p q =
    (ap (λ n. Ok n) (sym (stretch-length a 0 c) ∙ ap (λ (t : step.Result). length (values t.reply)) (p ∙ sym q) ∙ stretch-length b 0 d), ap (λ (t : step.Result). t.after.answers) (p ∙ sym q))
list-determined s (Ok c) (Err k) a b r p q = never _ _ (ap (λ (t : step.Result). t.reply) (p ∙ sym q))
list-determined s (Err k) (Ok d) a b r p q = never _ _ (ap (λ (t : step.Result). t.reply) (q ∙ sym p))
list-determined s (Err k) (Err j) a b r p q =
    (ap (λ n. Err n) (same-refusal k j (ap (λ (t : step.Result). number_in t.reply) (p ∙ sym q))), ap (λ (t : step.Result). t.after.answers) (p ∙ sym q))

-- ---- the calls that change the store
pub answer-determined : (x y : Result (Unit {0}) Refusal) (u v : model.Store) (r : step.Result) → change_told x u ≡ r → change_told y v ≡ r → (x ≡ y) × (u ≡ v)
unfolding number_in
answer-determined (Ok x) (Ok y) u v r p q = (refl, ap (λ (t : step.Result). t.after.store) (p ∙ sym q))
answer-determined (Ok x) (Err k) u v r p q = never _ _ (ap (λ (t : step.Result). t.reply) (p ∙ sym q))
answer-determined (Err k) (Ok y) u v r p q = never _ _ (ap (λ (t : step.Result). t.reply) (q ∙ sym p))
answer-determined (Err k) (Err j) u v r p q =
    (ap (λ n. Err n) (same-refusal k j (ap (λ (t : step.Result). number_in t.reply) (p ∙ sym q))), ap (λ (t : step.Result). t.after.store) (p ∙ sym q))

-- .. with the head as the code holds it and the ten lists, over the struct of any kind of change: `u` and `v` are what the two structs read as, and `refl` says so of their heads
pub head-determined : (x y : Result (Unit {0}) Refusal) (d e : Numbers) (u v : model.Store) (r : step.Result) → u.head ≡ head_of d → v.head ≡ head_of e
    → change_told x u ≡ r → change_told y v ≡ r → (x ≡ y) × ((d ≡ e) × (lists u ≡ lists v))
head-determined x y d e u v r hd he p q =
    let both = answer-determined x y u v r p q in
    (both.0, (same_head d e (sym hd ∙ ap (λ (s : model.Store). s.head) both.1 ∙ he), ap lists both.1))

pub change-determined : (x y : Result (Unit {0}) Refusal) (s t : StoreMut) (r : step.Result) → change_told x (lent s) ≡ r → change_told y (lent t) ≡ r
    → (x ≡ y) × ((s.head ≡ t.head) × (lists (lent s) ≡ lists (lent t)))
change-determined x y s t r p q = head-determined x y s.head t.head (lent s) (lent t) r refl refl p q
