-- WORDS: what each way out says, and that the definition says the same. Assumes nothing.
use mathlib.Core.Path.{◌≡◌, refl, sym, ap}
use mathlib.Core.List.{List, []}
use Prim.Native.Nat.{ℕ, ◌*◌, ◌^◌, ◌≤◌, ◌<◌}
use lib.ListN.{get_or}
use borrow.Author.Tests.{le-leb, lt-leb, eq-eqb, ne_eqb}
use Rattle.laws.specs.Parts.{part, stretch}
use Rattle.laws.specs.Words.{words_for}
use Rattle.laws.proofs.Parts.{stretch-part}
use Rattle.table.specs.declared.RowTail.{RowTail}
use Rattle.table.specs.declared.Op.TheVariants.{Words}
use Rattle.table.specs.Run.{ok, nay, reply_of}
use Rattle.model.specs.Store.{Full, edge, home_row}
use Rattle.model.specs.WellFormed.{WellFormed}
use Rattle.model.specs.Step.{inner}
use Rattle.model.proofs.Tail.{words-mean}
use Rattle.store_head.specs.Told.{handed}
use Rattle.store_head.proofs.QueryPlaces.{words-in}

module _ (p : RowTail) (f : Full) where
  pub words_row : f.store.head.h ≤ p.r → nay 4 ≡ reply_of (inner (Words p) f)
  unfolding inner
  words_row h = rw (le-leb f.store.head.h p.r h)

  module _ (hr : p.r < f.store.head.h) where
    pub words-side : (p.a ≡ edge f.store → ⊥) → nay 6 ≡ reply_of (inner (Words p) f)
    unfolding inner
    words-side h = rw (lt-leb f.store.head.h p.r hr, ne_eqb p.a (edge f.store) h)

    -- the row's part, where the code finds it
    module _ (v : WellFormed f.store) (y k : ℕ) (l : List ℕ) (ey : y ≡ home_row f.store p.r) (ek : k ≡ words_for f.store.head.n) (el : l ≡ part f.store.words (y * k) k) where
      pub words_are : p.a ≡ edge f.store → ((i : ℕ) → get_or f.store.words i 0 < 2 ^ 64) → ok l ≡ reply_of (inner (Words p) f)
      unfolding inner
      words_are ha fit =
          rw (lt-leb f.store.head.h p.r hr, eq-eqb p.a (edge f.store) ha, el, ey, ek) (ap ok (sym (words-mean f.store v p.r hr fit)))

      pub words-stand : l ≡ stretch f.store.words (home_row f.store p.r * words_for f.store.head.n) (words_for f.store.head.n)
      words-stand =
          rw (el, ey, ek) (sym (stretch-part f.store.words (home_row f.store p.r * words_for f.store.head.n) (words_for f.store.head.n) (words-in f.store v p.r (home_row f.store p.r) hr refl (home_row f.store p.r) refl).fits))

      -- the part that is handed back
      pub part-are : p.a ≡ edge f.store → ((i : ℕ) → get_or f.store.words i 0 < 2 ^ 64) → l ≡ handed (reply_of (inner (Words p) f))
      part-are ha fit = ap handed (words_are ha fit)

-- refused: nothing is handed back
pub none_row : (p : RowTail) (f : Full) → f.store.head.h ≤ p.r → [] ≡ handed (reply_of (inner (Words p) f))
none_row p f h = ap handed (words_row p f h)

pub none-side : (p : RowTail) (f : Full) → p.r < f.store.head.h → (p.a ≡ edge f.store → ⊥) → [] ≡ handed (reply_of (inner (Words p) f))
none-side p f hr h = ap handed (words-side p f hr h)
