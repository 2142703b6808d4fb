-- What an answer of the code says, in 01's words: for each of its cases the number of a refusal, or the values. Assumes nothing.
use Rattle.std.specs.Prelude.{◌≡◌, List, [], ◌∷◌, ℕ, Result, Ok, Err}
use Rattle.std.specs.Borrow.{Bor}
use Rattle.laws.specs.Parts.{stretch}
use Rattle.table.specs.Run.{Reply, ok, nay}
use Rattle.model.specs.Store as model
use Rattle.model.specs.Step as step
use Rattle.store_head.specs.declared.refusal.Refusal.{Refusal}
use Rattle.store_head.specs.declared.Size.{Size}
use Rattle.store_head.specs.Lent.{full_of}
use Rattle.store_head.specs.Refused.{number_of}

-- GET, COUNT: one number
abbrev pub number_says : Result ℕ Refusal → Reply
number_says (Ok x) = ok (x ∷ [])
number_says (Err k) = nay (number_of k)

-- SIZE: three
abbrev pub sizes : Size → List ℕ
sizes p = p.h ∷ p.w ∷ p.n ∷ []

abbrev pub size_says : Result Size Refusal → Reply
size_says (Ok p) = ok (sizes p)
size_says (Err k) = nay (number_of k)

-- ITER, TAILONES, COLONES: the list in the first places of the answer buffer, as long as the count says, and the buffer as it is left
abbrev pub list_told : model.Store → Result ℕ Refusal → List ℕ → step.Result
list_told s (Ok c) answers = record { reply = ok (stretch answers 0 c); after = full_of s answers }
list_told s (Err k) answers = record { reply = nay (number_of k); after = full_of s answers }

-- an operation that changes the store: done or refused, and the store as it is left
abbrev pub change_told : {A : Type 0} → Result A Refusal → model.Store → step.Result
change_told (Ok x) left = record { reply = ok []; after = full_of left [] }
change_told (Err k) left = record { reply = nay (number_of k); after = full_of left [] }

-- WORDS: the row's part of the lent words
abbrev pub words_says : Result (Bor (List ℕ)) Refusal → Reply
words_says (Ok ws) = ok ws.now
words_says (Err k) = nay (number_of k)

-- .. and where they stand among the lent words: "from home row times words per row"
abbrev pub WordsAt : List ℕ → (at size : ℕ) → Result (Bor (List ℕ)) Refusal → Type 0
WordsAt words at size (Ok ws) = ws.now ≡ stretch words at size
WordsAt words at size (Err k) = Unit {0}

-- .. and the part alone, as the call that can't fail hands it back: "empty when refused"
abbrev pub handed : Reply → List ℕ
handed (ok l) = l
handed (nay k) = []
