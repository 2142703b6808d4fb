-- What one call for any operation tells and leaves, in 01's words. Assumes nothing.
use Rattle.std.specs.Prelude.{◌≡◌, Bool, true, false, List, [], ◌∷◌, ℕ, ◌*◌, Result, Ok, Err}
use Rattle.laws.specs.Parts.{stretch}
use Rattle.laws.specs.Words.{words_for}
use Rattle.table.specs.declared.Op.{Op}
use Rattle.table.specs.declared.Op.TheVariants as op
use Rattle.table.specs.Room.{kind, is_make}
use Rattle.table.specs.Run.{Reply, ok, nay}
use Rattle.model.specs.Store as model
use Rattle.model.specs.Check.{well_formed}
use Rattle.model.specs.Step as step
use Rattle.store_head.specs.declared.refusal.Refusal.{Refusal}
use Rattle.store_head.specs.declared.refusal.Refusal.TheVariants as refusal
use Rattle.store_head.specs.Lent.{full_of}
use Rattle.store_head.specs.Refused.{number_of}
use Rattle.operations.specs.declared.Told.{Told}
use Rattle.operations.specs.declared.Told.TheVariants as told

-- ---- what it says

-- seven kinds ask, and leave the store as it is
abbrev pub asks : Op → Bool
asks (op.Make p) = false
asks (op.Set p) = false
asks (op.SwapR p) = false
asks (op.SwapC p) = false
asks (op.Add p) = false
asks op.On = false
asks op.Off = false
asks (op.Freeze p) = false
asks (op.Resize p) = false
asks (op.Get p) = true
asks (op.Count p) = true
asks (op.Words p) = true
asks (op.TailOnes p) = true
asks (op.Iter p) = true
asks (op.ColOnes p) = true
asks op.Size = true

-- where in the lent words the part of WORDS begins: "from home row times words per row"
abbrev pub part_at : Op → model.Store → ℕ
part_at (op.Words p) s = model.home_row s p.r * words_for s.head.n
part_at (op.Make p) s = 0
part_at (op.Set p) s = 0
part_at (op.SwapR p) s = 0
part_at (op.SwapC p) s = 0
part_at (op.Add p) s = 0
part_at op.On s = 0
part_at op.Off s = 0
part_at (op.Freeze p) s = 0
part_at (op.Resize p) s = 0
part_at (op.Get p) s = 0
part_at (op.Count p) s = 0
part_at (op.TailOnes p) s = 0
part_at (op.Iter p) s = 0
part_at (op.ColOnes p) s = 0
part_at op.Size s = 0

-- what an operation answers: nothing, a number, the sizes, a list or words
pub data Form : Type 0 where
  done : Form
  number : Form
  sizes : Form
  list : Form
  words : Form

abbrev pub form : Op → Form
form (op.Make p) = done
form (op.Set p) = done
form (op.SwapR p) = done
form (op.SwapC p) = done
form (op.Add p) = done
form op.On = done
form op.Off = done
form (op.Freeze p) = done
form (op.Resize p) = done
form (op.Get p) = number
form (op.Count p) = number
form (op.Words p) = words
form (op.TailOnes p) = list
form (op.Iter p) = list
form (op.ColOnes p) = list
form op.Size = sizes

-- the reply, with the words and the answer buffer as they are left. What is not in the operation's form says 0, a number that
-- no refusal has: a contract with this reply then determines what is told
abbrev pub says_told : Told → Form → ℕ → List ℕ → List ℕ → Reply
says_told told.Done done at ws answers = ok []
says_told told.Done number at ws answers = nay 0
says_told told.Done sizes at ws answers = nay 0
says_told told.Done list at ws answers = nay 0
says_told told.Done words at ws answers = nay 0
says_told (told.Number x) done at ws answers = nay 0
says_told (told.Number x) number at ws answers = ok (x ∷ [])
says_told (told.Number x) sizes at ws answers = nay 0
says_told (told.Number x) list at ws answers = nay 0
says_told (told.Number x) words at ws answers = nay 0
says_told (told.Sizes p) done at ws answers = nay 0
says_told (told.Sizes p) number at ws answers = nay 0
says_told (told.Sizes p) sizes at ws answers = ok (p.h ∷ p.w ∷ p.n ∷ [])
says_told (told.Sizes p) list at ws answers = nay 0
says_told (told.Sizes p) words at ws answers = nay 0
says_told (told.List c) done at ws answers = nay 0
says_told (told.List c) number at ws answers = nay 0
says_told (told.List c) sizes at ws answers = nay 0
says_told (told.List c) list at ws answers = ok (stretch answers 0 c)
says_told (told.List c) words at ws answers = nay 0
says_told (told.Words c) done at ws answers = nay 0
says_told (told.Words c) number at ws answers = nay 0
says_told (told.Words c) sizes at ws answers = nay 0
says_told (told.Words c) list at ws answers = nay 0
says_told (told.Words c) words at ws answers = ok (stretch ws at c)

abbrev pub says : Result Told Refusal → Form → ℕ → List ℕ → List ℕ → Reply
says (Ok t) f at ws answers = says_told t f at ws answers
says (Err k) f at ws answers = nay (number_of k)

-- any operation: what it tells, and the store u and the answer buffer that it leaves
abbrev pub op_told : Form → ℕ → model.Store → Result Told Refusal → List ℕ → step.Result
op_told f at u t answers = record { reply = says t f at u.words answers; after = full_of u answers }

-- ---- the guard

-- it lets MAKE through, and any other on a well-formed store; it refuses with 1 what is not MAKE on a damaged one
abbrev pub May : Op → model.Store → Result (Unit {0}) Refusal → Type 0
May o s (Ok x) = is_make (kind o) ≡ false → true ≡ well_formed s
May o s (Err k) = (is_make (kind o) ≡ false) × ((k ≡ refusal.Damaged) × (false ≡ well_formed s))
