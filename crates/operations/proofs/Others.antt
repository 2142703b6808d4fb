-- What a `match` leaves to its `_` is not the operation that the caller must bring. Assumes nothing.
use mathlib.Core.Path.{◌≡◌, refl}
use mathlib.Core.Bool.{true, false, true≢false, false≢true}
use Rattle.table.specs.declared.Op.{Op}
use Rattle.table.specs.declared.Sizes.{Sizes}
use Rattle.table.specs.declared.SetCell.{SetCell}
use Rattle.table.specs.declared.Two.{Two}
use Rattle.table.specs.declared.Addition.{Addition}
use Rattle.table.specs.declared.Column.{Column}
use Rattle.table.specs.declared.Shape.{Shape}
use Rattle.table.specs.declared.Cell.{Cell}
use Rattle.table.specs.declared.RowRange.{RowRange}
use Rattle.table.specs.declared.RowTail.{RowTail}
use Rattle.table.specs.declared.ColumnRange.{ColumnRange}
use Rattle.table.specs.declared.Op.TheVariants.{Make, Set, SwapR, SwapC, Add, On, Off, Freeze, Resize, Get, Count, Words, TailOnes, Iter, ColOnes, Size}
use Rattle.table.specs.Room.{kind, is_make, listed}
use Rattle.operations.specs.Applied.{asks, done, form}

-- one that asks is one of the seven that ask
pub asks-one : (o : Op) → asks o ≡ true → ((x : Cell) → o ≡ Get x → ⊥) → ((x : RowRange) → o ≡ Count x → ⊥) → ((x : RowTail) → o ≡ Words x → ⊥) → ((x : RowTail) → o ≡ TailOnes x → ⊥) → ((x : RowRange) → o ≡ Iter x → ⊥) → ((x : ColumnRange) → o ≡ ColOnes x → ⊥) → (o ≡ Size → ⊥) → ⊥
asks-one (Make p) t h0 h1 h2 h3 h4 h5 h6 = false≢true t
asks-one (Set p) t h0 h1 h2 h3 h4 h5 h6 = false≢true t
asks-one (SwapR p) t h0 h1 h2 h3 h4 h5 h6 = false≢true t
asks-one (SwapC p) t h0 h1 h2 h3 h4 h5 h6 = false≢true t
asks-one (Add p) t h0 h1 h2 h3 h4 h5 h6 = false≢true t
asks-one On t h0 h1 h2 h3 h4 h5 h6 = false≢true t
asks-one Off t h0 h1 h2 h3 h4 h5 h6 = false≢true t
asks-one (Freeze p) t h0 h1 h2 h3 h4 h5 h6 = false≢true t
asks-one (Resize p) t h0 h1 h2 h3 h4 h5 h6 = false≢true t
asks-one (Get p) t h0 h1 h2 h3 h4 h5 h6 = h0 p refl
asks-one (Count p) t h0 h1 h2 h3 h4 h5 h6 = h1 p refl
asks-one (Words p) t h0 h1 h2 h3 h4 h5 h6 = h2 p refl
asks-one (TailOnes p) t h0 h1 h2 h3 h4 h5 h6 = h3 p refl
asks-one (Iter p) t h0 h1 h2 h3 h4 h5 h6 = h4 p refl
asks-one (ColOnes p) t h0 h1 h2 h3 h4 h5 h6 = h5 p refl
asks-one Size t h0 h1 h2 h3 h4 h5 h6 = h6 refl

-- one that does not ask is one of the nine that change the store
pub changes-one : (o : Op) → asks o ≡ false → ((x : Sizes) → o ≡ Make x → ⊥) → ((x : SetCell) → o ≡ Set x → ⊥) → ((x : Two) → o ≡ SwapR x → ⊥) → ((x : Two) → o ≡ SwapC x → ⊥) → ((x : Addition) → o ≡ Add x → ⊥) → (o ≡ On → ⊥) → (o ≡ Off → ⊥) → ((x : Column) → o ≡ Freeze x → ⊥) → ((x : Shape) → o ≡ Resize x → ⊥) → ⊥
changes-one (Make p) t h0 h1 h2 h3 h4 h5 h6 h7 h8 = h0 p refl
changes-one (Set p) t h0 h1 h2 h3 h4 h5 h6 h7 h8 = h1 p refl
changes-one (SwapR p) t h0 h1 h2 h3 h4 h5 h6 h7 h8 = h2 p refl
changes-one (SwapC p) t h0 h1 h2 h3 h4 h5 h6 h7 h8 = h3 p refl
changes-one (Add p) t h0 h1 h2 h3 h4 h5 h6 h7 h8 = h4 p refl
changes-one On t h0 h1 h2 h3 h4 h5 h6 h7 h8 = h5 refl
changes-one Off t h0 h1 h2 h3 h4 h5 h6 h7 h8 = h6 refl
changes-one (Freeze p) t h0 h1 h2 h3 h4 h5 h6 h7 h8 = h7 p refl
changes-one (Resize p) t h0 h1 h2 h3 h4 h5 h6 h7 h8 = h8 p refl
changes-one (Get p) t h0 h1 h2 h3 h4 h5 h6 h7 h8 = true≢false t
changes-one (Count p) t h0 h1 h2 h3 h4 h5 h6 h7 h8 = true≢false t
changes-one (Words p) t h0 h1 h2 h3 h4 h5 h6 h7 h8 = true≢false t
changes-one (TailOnes p) t h0 h1 h2 h3 h4 h5 h6 h7 h8 = true≢false t
changes-one (Iter p) t h0 h1 h2 h3 h4 h5 h6 h7 h8 = true≢false t
changes-one (ColOnes p) t h0 h1 h2 h3 h4 h5 h6 h7 h8 = true≢false t
changes-one Size t h0 h1 h2 h3 h4 h5 h6 h7 h8 = true≢false t

-- ---- the same of the tests
pub other-than-make : (o : Op) → ((x : Sizes) → o ≡ Make x → ⊥) → false ≡ is_make (kind o)
other-than-make (Make p) h0 = absurd (h0 p refl)
other-than-make (Set p) h0 = refl
other-than-make (SwapR p) h0 = refl
other-than-make (SwapC p) h0 = refl
other-than-make (Add p) h0 = refl
other-than-make On h0 = refl
other-than-make Off h0 = refl
other-than-make (Freeze p) h0 = refl
other-than-make (Resize p) h0 = refl
other-than-make (Get p) h0 = refl
other-than-make (Count p) h0 = refl
other-than-make (Words p) h0 = refl
other-than-make (TailOnes p) h0 = refl
other-than-make (Iter p) h0 = refl
other-than-make (ColOnes p) h0 = refl
other-than-make Size h0 = refl

pub no-question-told : (o : Op) → ((x : Cell) → o ≡ Get x → ⊥) → ((x : RowRange) → o ≡ Count x → ⊥) → ((x : RowTail) → o ≡ Words x → ⊥) → ((x : RowTail) → o ≡ TailOnes x → ⊥) → ((x : RowRange) → o ≡ Iter x → ⊥) → ((x : ColumnRange) → o ≡ ColOnes x → ⊥) → (o ≡ Size → ⊥) → false ≡ asks o
no-question-told (Make p) h0 h1 h2 h3 h4 h5 h6 = refl
no-question-told (Set p) h0 h1 h2 h3 h4 h5 h6 = refl
no-question-told (SwapR p) h0 h1 h2 h3 h4 h5 h6 = refl
no-question-told (SwapC p) h0 h1 h2 h3 h4 h5 h6 = refl
no-question-told (Add p) h0 h1 h2 h3 h4 h5 h6 = refl
no-question-told On h0 h1 h2 h3 h4 h5 h6 = refl
no-question-told Off h0 h1 h2 h3 h4 h5 h6 = refl
no-question-told (Freeze p) h0 h1 h2 h3 h4 h5 h6 = refl
no-question-told (Resize p) h0 h1 h2 h3 h4 h5 h6 = refl
no-question-told (Get p) h0 h1 h2 h3 h4 h5 h6 = absurd (h0 p refl)
no-question-told (Count p) h0 h1 h2 h3 h4 h5 h6 = absurd (h1 p refl)
no-question-told (Words p) h0 h1 h2 h3 h4 h5 h6 = absurd (h2 p refl)
no-question-told (TailOnes p) h0 h1 h2 h3 h4 h5 h6 = absurd (h3 p refl)
no-question-told (Iter p) h0 h1 h2 h3 h4 h5 h6 = absurd (h4 p refl)
no-question-told (ColOnes p) h0 h1 h2 h3 h4 h5 h6 = absurd (h5 p refl)
no-question-told Size h0 h1 h2 h3 h4 h5 h6 = absurd (h6 refl)

-- a question is not MAKE
pub question-not-make : (o : Op) → asks o ≡ true → is_make (kind o) ≡ false
question-not-make (Make p) t = absurd (false≢true t)
question-not-make (Set p) t = refl
question-not-make (SwapR p) t = refl
question-not-make (SwapC p) t = refl
question-not-make (Add p) t = refl
question-not-make On t = refl
question-not-make Off t = refl
question-not-make (Freeze p) t = refl
question-not-make (Resize p) t = refl
question-not-make (Get p) t = refl
question-not-make (Count p) t = refl
question-not-make (Words p) t = refl
question-not-make (TailOnes p) t = refl
question-not-make (Iter p) t = refl
question-not-make (ColOnes p) t = refl
question-not-make Size t = refl

-- what changes answers no list
pub change-lists-none : (o : Op) → asks o ≡ false → listed (kind o) ≡ false
change-lists-none (Make p) t = refl
change-lists-none (Set p) t = refl
change-lists-none (SwapR p) t = refl
change-lists-none (SwapC p) t = refl
change-lists-none (Add p) t = refl
change-lists-none On t = refl
change-lists-none Off t = refl
change-lists-none (Freeze p) t = refl
change-lists-none (Resize p) t = refl
change-lists-none (Get p) t = absurd (true≢false t)
change-lists-none (Count p) t = absurd (true≢false t)
change-lists-none (Words p) t = absurd (true≢false t)
change-lists-none (TailOnes p) t = absurd (true≢false t)
change-lists-none (Iter p) t = absurd (true≢false t)
change-lists-none (ColOnes p) t = absurd (true≢false t)
change-lists-none Size t = absurd (true≢false t)

-- .. and tells nothing but that it is done
pub change-form : (o : Op) → asks o ≡ false → form o ≡ done
change-form (Make p) t = refl
change-form (Set p) t = refl
change-form (SwapR p) t = refl
change-form (SwapC p) t = refl
change-form (Add p) t = refl
change-form On t = refl
change-form Off t = refl
change-form (Freeze p) t = refl
change-form (Resize p) t = refl
change-form (Get p) t = absurd (true≢false t)
change-form (Count p) t = absurd (true≢false t)
change-form (Words p) t = absurd (true≢false t)
change-form (TailOnes p) t = absurd (true≢false t)
change-form (Iter p) t = absurd (true≢false t)
change-form (ColOnes p) t = absurd (true≢false t)
change-form Size t = absurd (true≢false t)
