-- A host's call is the store's call over the head that crossed; a head that is none is refused with 1. Assumes nothing.
use mathlib.Core.Path.{◌≡◌, refl, sym, ap, ◌∙◌}
use mathlib.Core.Bool.{Bool, true, false, ◌||◌, false≢true}
use mathlib.Core.List.{List, []}
use Prim.Native.Nat.{ℕ, ◌≤◌, ◌<◌}
use borrow.Author.Tests.{le-leb, lt-leb}
use Rattle.laws.specs.Plain.{pick}
use Rattle.laws.proofs.Parts.{stretch-length}
use Rattle.table.specs.declared.Op.{Op}
use Rattle.table.specs.Refusals.{Verdict, refused, done}
use Rattle.table.specs.Room.{kind, is_make}
use Rattle.table.specs.Run.{ok, nay, reply_of}
use Rattle.table.specs.Run as table
use Rattle.model.specs.Store as model
use Rattle.model.specs.Step.{Result, result_of, step}
use Rattle.store_head.specs.declared.Numbers.{Numbers}
use Rattle.std.specs.Prelude.{Ok, Err}
use Rattle.std.specs.Prelude as std
use Rattle.std.specs.Borrow.{Bor}
use Rattle.store_head.specs.declared.refusal.Refusal.{Refusal}
use Rattle.store_head.specs.declared.Size.{Size}
use Rattle.store_head.specs.Lent.{head_of, full_of}
use Rattle.store_head.specs.Refused.{number_of}
use Rattle.store_head.specs.Told.{number_says, size_says, list_told, words_says, change_told}
use Rattle.store_head.proofs.Replies.{never}
use Rattle.store_head.proofs.Slices.{same_head}
use Rattle.script.specs.declared.Stand.{Stand}
use Rattle.script.specs.Left.{Left, ran_told, run_of, left_by}
use Rattle.clatterthaw_host.specs.declared.PlainHead.{PlainHead}
use Rattle.clatterthaw_host.specs.declared.PlainChanged.{PlainChanged}
use Rattle.clatterthaw_host.specs.declared.PlainNumber.{PlainNumber}
use Rattle.clatterthaw_host.specs.declared.PlainSize.{PlainSize}
use Rattle.clatterthaw_host.specs.declared.PlainList.{PlainList}
use Rattle.clatterthaw_host.specs.declared.PlainWords.{PlainWords}
use Rattle.clatterthaw_host.specs.declared.PlainRan.{PlainRan}
use Rattle.clatterthaw_host.specs.Crossing.{numbers_of, sound, crossing, number_by, size_by, list_by, words_by, changed_by, Crossed, ran_by, running, RunCrossed}
use Rattle.clatterthaw_host.specs.Told.{of_number, of_sized, of_listed, of_words, of_changed, of_ran}
use Rattle.clatterthaw_host.proofs.Crosses.{there_and_back}

abbrev part : ℕ → ℕ → PlainWords
part start k = record { no = 0; count = k; start = start }

abbrev places : ℕ → PlainList
places k = record { no = 0; count = k }

-- ---- a head that is none
module _ (p : PlainHead) (o : Op) (f : model.Full) (n : is_make (kind o) ≡ false) (h : 1 < p.on) where
  broken : crossing p o f ≡ refused 1
  broken = rw (lt-leb p.on 1 h, n)

  pub number-broken : ◌≡◌ {A = PlainNumber} (record { no = 1; value = 0 }) (number_by (reply_of (crossing p o f)))
  number-broken = ap (λ (v : Verdict model.Full). number_by (reply_of v)) (sym broken)

  pub size-broken : ◌≡◌ {A = PlainSize} (record { no = 1; h = 0; w = 0; n = 0 }) (size_by (reply_of (crossing p o f)))
  size-broken = ap (λ (v : Verdict model.Full). size_by (reply_of v)) (sym broken)

  pub words-broken : (at : ℕ) → ◌≡◌ {A = PlainWords} (record { no = 1; count = 0; start = 0 }) (words_by at (reply_of (crossing p o f)))
  words-broken at = ap (λ (v : Verdict model.Full). words_by at (reply_of v)) (sym broken)

  left-broken : ◌≡◌ {A = Result} (record { reply = nay 1; after = f }) (result_of f (crossing p o f))
  left-broken = ap (result_of f) (sym broken)

  pub list-broken : (◌≡◌ {A = PlainList} (record { no = 1; count = 0 }) (list_by (result_of f (crossing p o f)).reply)) × (f.answers ≡ (result_of f (crossing p o f)).after.answers)
  list-broken = (ap (λ (r : Result). list_by r.reply) left-broken, ap (λ (r : Result). r.after.answers) left-broken)

  pub change-broken : (left : Numbers → model.Full) → left (numbers_of p) ≡ f → Crossed p (record { head = p; no = 1 }) (result_of f (crossing p o f)) left
  change-broken left e =
      record {
        told = ap (λ (r : Result). changed_by p r.reply r.after.store.head) left-broken;
        kept = e ∙ ap (λ (r : Result). r.after) left-broken;
      }

-- ---- a call that refuses leaves the store
refused-keeps : (v : Verdict model.Full) (f : model.Full) (u : model.Store) (j : Refusal) → change_told {A = Unit {0}} (Err j) u ≡ result_of f v → u ≡ f.store
refused-keeps (refused k) f u j b = ap (λ (t : Result). t.after.store) b
refused-keeps (done g a) f u j b = never a (number_of j) (ap (λ (t : Result). t.reply) (sym b))

-- ---- one that is: d is the head that crossed, and f the store over a head
module _ (p : PlainHead) (o : Op) (f : Numbers → model.Full) (d : Numbers) (e : d ≡ numbers_of p) (same : step o (f (numbers_of p)) ≡ crossing p o (f (numbers_of p))) where
  step-crossed : step o (f d) ≡ crossing p o (f (numbers_of p))
  step-crossed = ap (λ (z : Numbers). step o (f z)) e ∙ same

  left-crossed : result_of (f d) (step o (f d)) ≡ result_of (f (numbers_of p)) (crossing p o (f (numbers_of p)))
  left-crossed = ap (λ (z : Numbers). result_of (f z) (step o (f z))) e ∙ ap (result_of (f (numbers_of p))) same

  as-number : (y : std.Result ℕ Refusal) → of_number y ≡ number_by (number_says y)
  as-number (Ok v) = refl
  as-number (Err k) = refl

  pub number-crossed : (y : std.Result ℕ Refusal) (x : PlainNumber) → x ≡ of_number y → number_says y ≡ reply_of (step o (f d)) → x ≡ number_by (reply_of (crossing p o (f (numbers_of p))))
  number-crossed y x a b = a ∙ as-number y ∙ ap number_by (b ∙ ap reply_of step-crossed)

  as-size : (y : std.Result Size Refusal) → of_sized y ≡ size_by (size_says y)
  as-size (Ok v) = refl
  as-size (Err k) = refl

  pub size-crossed : (y : std.Result Size Refusal) (x : PlainSize) → x ≡ of_sized y → size_says y ≡ reply_of (step o (f d)) → x ≡ size_by (reply_of (crossing p o (f (numbers_of p))))
  size-crossed y x a b = a ∙ as-size y ∙ ap size_by (b ∙ ap reply_of step-crossed)

  as-words : (start : ℕ) (y : std.Result (Bor (List ℕ)) Refusal) → of_words start y ≡ words_by start (words_says y)
  as-words start (Ok ws) = refl
  as-words start (Err k) = refl

  pub words-crossed : (start : ℕ) (y : std.Result (Bor (List ℕ)) Refusal) (x : PlainWords) → x ≡ of_words start y → words_says y ≡ reply_of (step o (f d)) → x ≡ words_by start (reply_of (crossing p o (f (numbers_of p))))
  words-crossed start y x a b = a ∙ as-words start y ∙ ap (words_by start) (b ∙ ap reply_of step-crossed)

  as-list : (s : model.Store) (y : std.Result ℕ Refusal) (out : List ℕ) → of_listed y ≡ list_by (list_told s y out).reply
  as-list s (Ok c) out = ap places (sym (stretch-length out 0 c))
  as-list s (Err k) out = refl

  left-of : (s : model.Store) (y : std.Result ℕ Refusal) (out : List ℕ) → out ≡ (list_told s y out).after.answers
  left-of s (Ok c) out = refl
  left-of s (Err k) out = refl

  pub list-crossed : (s : model.Store) (y : std.Result ℕ Refusal) (x : PlainList) (out : List ℕ) → x ≡ of_listed y → list_told s y out ≡ result_of (f d) (step o (f d))
      → (x ≡ list_by (result_of (f (numbers_of p)) (crossing p o (f (numbers_of p)))).reply) × (out ≡ (result_of (f (numbers_of p)) (crossing p o (f (numbers_of p)))).after.answers)
  list-crossed s y x out a b =
      let q : list_told s y out ≡ result_of (f (numbers_of p)) (crossing p o (f (numbers_of p))) = b ∙ left-crossed in
      (a ∙ as-list s y out ∙ ap (λ (r : Result). list_by r.reply) q, left-of s y out ∙ ap (λ (r : Result). r.after.answers) q)

  -- a change leaves the store over the head g; refused, that is the one that crossed
  module _ (left : Numbers → model.Store) (over : (z : Numbers) → (left z).head ≡ head_of z) (under : (f d).store.head ≡ head_of d) (g : Numbers) where
    as-it-was : (j : Refusal) → change_told {A = Unit {0}} (Err j) (left g) ≡ result_of (f d) (step o (f d)) → g ≡ d
    as-it-was j b = same_head g d (sym (over g) ∙ ap (λ (t : model.Store). t.head) (refused-keeps (step o (f d)) (f d) (left g) j b) ∙ under)

    by-change : (y : std.Result (Unit {0}) Refusal) (x : PlainChanged) (r : Result) → (std.IsErr y → g ≡ d) → x ≡ of_changed p g y → change_told y (left g) ≡ r → Crossed p x r (λ z. full_of (left z) [])
    by-change (Ok u) x r k a b =
        record {
          told = a ∙ ap (λ (m : model.Head). changed_by p (ok []) m) (sym (over g)) ∙ ap (λ (t : Result). changed_by p t.reply t.after.store.head) b;
          kept = ap (λ (t : PlainChanged). full_of (left (numbers_of t.head)) []) a ∙ ap (λ (z : Numbers). full_of (left z) []) (there_and_back g) ∙ ap (λ (t : Result). t.after) b;
        }
    by-change (Err j) x r k a b =
        record {
          told = a ∙ ap (λ (t : Result). changed_by p t.reply t.after.store.head) b;
          kept = ap (λ (t : PlainChanged). full_of (left (numbers_of t.head)) []) a ∙ ap (λ (z : Numbers). full_of (left z) []) (sym (k refl ∙ e)) ∙ ap (λ (t : Result). t.after) b;
        }

    pub change-crossed : (y : std.Result (Unit {0}) Refusal) (x : PlainChanged) → x ≡ of_changed p g y → change_told y (left g) ≡ result_of (f d) (step o (f d))
        → Crossed p x (result_of (f (numbers_of p)) (crossing p o (f (numbers_of p)))) (λ z. full_of (left z) [])
    change-crossed (Ok u) x a b = by-change (Ok u) x (result_of (f (numbers_of p)) (crossing p o (f (numbers_of p)))) (λ n. absurd (false≢true n)) a (b ∙ left-crossed)
    change-crossed (Err j) x a b = by-change (Err j) x (result_of (f (numbers_of p)) (crossing p o (f (numbers_of p)))) (λ n. as-it-was j b) a (b ∙ left-crossed)

-- ---- which step is the host's
pub whole-head : (p : PlainHead) (o : Op) (f : model.Full) → p.on ≤ 1 → step o f ≡ crossing p o f
whole-head p o f h = rw (le-leb p.on 1 h)

pub for-make : (p : PlainHead) (o : Op) (f : model.Full) → is_make (kind o) ≡ true → step o f ≡ crossing p o f
for-make p o f m = by (sound p)
  where
    by : (b : Bool) → step o f ≡ pick (b || is_make (kind o)) (step o f) (refused 1)
    by true = refl
    by false = rw m

-- ---- a run that is refused leaves the store
run-keeps : (s out : List ℕ) (f : model.Full) (v : Verdict (table.Ran model.Full)) (u : model.Full) (lines : List ℕ) (j : Refusal) → ran_told (Err j) u lines ≡ left_by s out f v → u ≡ f
run-keeps s out f (refused k) u lines j b = ap (λ (t : Left). t.after) b
run-keeps s out f (done x a) u lines j b = never _ (number_of j) (ap (λ (t : Left). t.reply) (sym b))

-- ---- a run
module _ (p : PlainHead) (s out : List ℕ) where
  pub run-broken : (f : model.Full) → 1 < p.on → (left : Numbers → model.Full) → left (numbers_of p) ≡ f → (lines : List ℕ) → lines ≡ out
      → RunCrossed p (record { head = p; no = 1; done = 0; written = 0 }) (running p s out f) left lines
  run-broken f h left e lines g =
      record {
        told = ap (λ (r : Left). ran_by p r.reply r.after.store.head) none;
        kept = e ∙ ap (λ (r : Left). r.after) none;
        written = g ∙ ap (λ (r : Left). r.lines) none;
      }
    where
      none : ◌≡◌ {A = Left} (record { reply = nay 1; after = f; lines = out }) (running p s out f)
      none = rw (lt-leb p.on 1 h)

  module _ (f : Numbers → model.Full) (d : Numbers) (e : d ≡ numbers_of p) (h : p.on ≤ 1) (left : Numbers → model.Full) (over : (z : Numbers) → (left z).store.head ≡ head_of z) (under : (f d).store.head ≡ head_of d) (lines : List ℕ) where
    by-run : (g : Numbers) (y : std.Result Stand Refusal) (x : PlainRan) (r : Left) → (std.IsErr y → g ≡ d) → x ≡ of_ran p g y → ran_told y (left g) lines ≡ r → RunCrossed p x r left lines
    by-run g (Ok u) x r k a b =
        record {
          told = a ∙ ap (λ (m : model.Head). ran_by p (ran_told (Ok u) (left g) lines).reply m) (sym (over g)) ∙ ap (λ (t : Left). ran_by p t.reply t.after.store.head) b;
          kept = ap (λ (t : PlainRan). left (numbers_of t.head)) a ∙ ap left (there_and_back g) ∙ ap (λ (t : Left). t.after) b;
          written = ap (λ (t : Left). t.lines) b;
        }
    by-run g (Err j) x r k a b =
        record {
          told = a ∙ ap (λ (t : Left). ran_by p t.reply t.after.store.head) b;
          kept = ap (λ (t : PlainRan). left (numbers_of t.head)) a ∙ ap left (sym (k refl ∙ e)) ∙ ap (λ (t : Left). t.after) b;
          written = ap (λ (t : Left). t.lines) b;
        }

    run-as-it-was : (g : Numbers) (j : Refusal) → ran_told (Err j) (left g) lines ≡ run_of s out (f d) → g ≡ d
    run-as-it-was g j b = same_head g d (sym (over g) ∙ ap (λ (t : model.Full). t.store.head) (run-keeps s out (f d) _ (left g) lines j b) ∙ under)

    pub run-crossed : (g : Numbers) (y : std.Result Stand Refusal) (x : PlainRan) → x ≡ of_ran p g y → ran_told y (left g) lines ≡ run_of s out (f d) → RunCrossed p x (running p s out (f (numbers_of p))) left lines
    run-crossed g y x a b = by-run g y x (running p s out (f (numbers_of p))) (kept y b) a (b ∙ ap (λ (z : Numbers). run_of s out (f z)) e ∙ same)
      where
        same : run_of s out (f (numbers_of p)) ≡ running p s out (f (numbers_of p))
        same = rw (le-leb p.on 1 h)

        kept : (w : std.Result Stand Refusal) → ran_told w (left g) lines ≡ run_of s out (f d) → std.IsErr w → g ≡ d
        kept (Ok u) c n = absurd (false≢true n)
        kept (Err j) c n = run-as-it-was g j c
