-- A RUN IS ITS SINGLE CALLS: its replies are the first replies of the records done one call after the other, and the state is the one that these calls
-- leave. A run that does the whole list on its first operation is shut out by it. Assumes nothing.
use mathlib.Core.Path.{◌≡◌, refl, ap}
use mathlib.Core.List.{List, [], ◌∷◌}
use Prim.Native.Nat.{ℕ, ◌-◌}
use lib.Dec.{leb}
use lib.ListN.{length, take}
use Rattle.laws.proofs.Bools.{by-test}
use Rattle.table.specs.declared.Op.{Op}
use Rattle.table.specs.Refusals.{Verdict}
use Rattle.table.specs.Run.{Reply, reply_of, kept, replies, Record, perform, Ran, runs}
use Rattle.script.specs.Calls.{replies_to, final_after, each}

module _ {S : Type 0} (f : Op → S → Verdict S) (long : Reply → ℕ) where
  pub run-is-its-single-calls : (room : ℕ) (rs : List Record) (s : S)
      → let x : Ran S = runs f long room rs s in
      (x.said ≡ take (length x.said) (replies_to f rs s)) × (x.state ≡ final_after f (take (length x.said) rs) s)
  unfolding runs replies_to final_after
  run-is-its-single-calls room [] s = (refl, refl)
  run-is-its-single-calls room (r ∷ rs) s =
      by-test (leb (long (reply_of (perform f r s))) room)
      (λ e. let ih = run-is-its-single-calls (room - long (reply_of (perform f r s))) rs (kept (perform f r s) s) in rw e (ap (λ (l : List Reply). reply_of (perform f r s) ∷ l) ih.0, ih.1))
      (λ e. rw e (refl, refl))

  -- of operations alone
  pub operations-alone : (os : List Op) (s : S) → replies_to f (each os) s ≡ replies f os s
  unfolding replies_to replies
  operations-alone [] s = refl
  operations-alone (o ∷ os) s = ap (λ (l : List Reply). reply_of (f o s) ∷ l) (operations-alone os (kept (f o s) s))
