-- GET, COUNT and SIZE: what each way out says, and that the definition says the same. Assumes nothing.
use mathlib.Core.Path.{◌≡◌, refl, sym, ap, ◌∙◌}
use mathlib.Core.Bool.{Bool, true, false}
use mir.Val.{bool_byte}
use mathlib.Core.List.{List, [], ◌∷◌}
use Prim.Native.Nat.{ℕ, ◌-◌, ◌≤◌, ◌<◌}
use lib.ListN.{length}
use borrow.Author.Tests.{lt-ltb, le-ltb, le-leb, lt-leb}
use Rattle.laws.specs.Plain.{num}
use Rattle.laws.specs.Rows.{member}
use Rattle.sparse_vec.specs.Row.{walked}
use Rattle.tail.specs.Tail.{tail_bit}
use Rattle.table.specs.declared.Cell.{Cell}
use Rattle.table.specs.declared.RowRange.{RowRange}
use Rattle.table.specs.declared.Op.TheVariants.{Get, Count, Size}
use Rattle.table.specs.Run.{ok, nay, reply_of}
use Rattle.model.specs.Store.{Full, edge, row, home_row, home_column, cell}
use Rattle.model.specs.WellFormed.{WellFormed}
use Rattle.model.specs.Step.{inner}
use Rattle.model.proofs.Walk.{count-means}

-- a bit as a number, as the code turns it
bit-num : (b : Bool) → bool_byte b ≡ num b
bit-num true = refl
bit-num false = refl

-- ---- SIZE
pub size_is : (f : Full) → ok (f.store.head.h ∷ f.store.head.w ∷ f.store.head.n ∷ []) ≡ reply_of (inner Size f)
unfolding inner
size_is f = refl

-- ---- GET
module _ (p : Cell) (f : Full) where
  pub get-row : f.store.head.h ≤ p.r → nay 4 ≡ reply_of (inner (Get p) f)
  unfolding inner
  get-row h = rw (le-leb f.store.head.h p.r h)

  module _ (hr : p.r < f.store.head.h) where
    pub get-column : f.store.head.w ≤ p.c → nay 5 ≡ reply_of (inner (Get p) f)
    unfolding inner
    get-column h = rw (lt-leb f.store.head.h p.r hr, le-leb f.store.head.w p.c h)

    module _ (hc : p.c < f.store.head.w) where
      get-is : ok (num (cell f.store (home_row f.store p.r) p.c) ∷ []) ≡ reply_of (inner (Get p) f)
      unfolding inner
      get-is =
          rw (lt-leb f.store.head.h p.r hr, lt-leb f.store.head.w p.c hc, lt-ltb p.r f.store.head.h hr, lt-ltb p.c f.store.head.w hc)

      pub get-sparse : (y k z x : ℕ) (l : List ℕ) (b : Bool) → p.c < edge f.store → y ≡ home_row f.store p.r → k ≡ p.c → z ≡ home_column f.store k
          → l ≡ row f.store y → b ≡ member z l → x ≡ bool_byte b → ok (x ∷ []) ≡ reply_of (inner (Get p) f)
      get-sparse y k z x l b low ey ek ez el eb ex = rw (ex, bit-num b, eb, el, ey, ez, ek) (ap (λ q. ok (num q ∷ [])) (sym cell-is) ∙ get-is)
        where
          cell-is : cell f.store (home_row f.store p.r) p.c ≡ member (home_column f.store p.c) (row f.store (home_row f.store p.r))
          cell-is = rw (lt-ltb p.c (edge f.store) low)

      pub get-tail : (y i x : ℕ) (b : Bool) → edge f.store ≤ p.c → y ≡ home_row f.store p.r → i ≡ y
          → b ≡ tail_bit f.store.words f.store.head.n i (p.c - edge f.store) → x ≡ bool_byte b → ok (x ∷ []) ≡ reply_of (inner (Get p) f)
      get-tail y i x b l ey ei eb ex = rw (ex, bit-num b, eb, ei, ey) (ap (λ q. ok (num q ∷ [])) (sym cell-is) ∙ get-is)
        where
          cell-is : cell f.store (home_row f.store p.r) p.c
              ≡ tail_bit f.store.words f.store.head.n (home_row f.store p.r) (p.c - edge f.store)
          cell-is = rw (le-ltb p.c (edge f.store) l)

-- ---- COUNT
module _ (p : RowRange) (f : Full) where
  pub count-row : f.store.head.h ≤ p.r → nay 4 ≡ reply_of (inner (Count p) f)
  unfolding inner
  count-row h = rw (le-leb f.store.head.h p.r h)

  module _ (hr : p.r < f.store.head.h) where
    pub count-side : edge f.store < p.b → nay 6 ≡ reply_of (inner (Count p) f)
    unfolding inner
    count-side h = rw (lt-leb f.store.head.h p.r hr, lt-ltb (edge f.store) p.b h)

    pub count-is : WellFormed f.store → (y x : ℕ) (l : List ℕ) → p.b ≤ edge f.store → y ≡ home_row f.store p.r → l ≡ row f.store y
        → x ≡ length (walked f.store.columns.logicals p.a p.b l) → ok (x ∷ []) ≡ reply_of (inner (Count p) f)
    unfolding inner
    count-is v y x l hb ey el ex =
        rw (lt-leb f.store.head.h p.r hr, le-ltb (edge f.store) p.b hb, ex, el, ey)
        (ap (λ q. ok (q ∷ [])) (sym (count-means f.store v p.r hr p.a p.b hb)))
