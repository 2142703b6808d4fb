-- A well-formed store gives what the leaf functions ask: a row's list, its map, its tail words, a column's list. Assumes nothing.
use mathlib.Core.Path.{◌≡◌, ap, ◌∙◌}
use mathlib.Core.Bool.{true}
use mathlib.Core.List.{List}
use Prim.Native.Nat.{ℕ, ◌-◌, ◌≤◌, ◌<◌}
use native.Mathlib.Omega.{arith}
use lib.ListN.{length, get_or}
use Rattle.laws.specs.Rows.{Rising}
use Rattle.laws.specs.Words.{words_for}
use Rattle.laws.proofs.Parts.{row-end}
use Rattle.laws.proofs.Members.{member-at}
use Rattle.sparse_vec.specs.Row.{Mapped, walked}
use Rattle.sparse_vec.proofs.Walking.{walked-length}
use Rattle.tail.specs.Tail.{InRow, InTail, TailRow}
use Rattle.arraymap.specs.Index.{list_at}
use Rattle.arraymap.specs.Show.{CanShow, CanList}
use Rattle.arraymap.proofs.Means as means
use Rattle.model.specs.Store.{Store, edge, row, home_row, home_column}
use Rattle.model.specs.WellFormed.{WellFormed}
use Rattle.model.proofs.Rows.{words-fit}
use Rattle.model.proofs.ColOnes.{colones-can}
use Rattle.model.proofs.Rows.{frame-of, row-length}
use Rattle.store_head.specs.Query.{InSlots}

module _ (s : Store) (v : WellFormed s) where
  -- a logical column has a home
  pub column-in : (c k : ℕ) → c < s.head.w → k ≡ c → k < length s.columns.homes
  column-in c k h e = omega (arith, v.maps.wide, v.maps.columns.f-long)

  pub column-low : (c : ℕ) → c < s.head.w → c < 65536
  column-low c h = omega (arith, v.maps.wide, v.limits.width)

  -- y is where logical row r is kept
  module _ (r y : ℕ) (hr : r < s.head.h) (e : y ≡ home_row s r) where
    home-in : y < s.head.h
    home-in = omega (arith, e, v.maps.rows.f-below r hr)

    pub in-slots : InSlots s.slots.entries s.slots.counts s.head.slots y
    in-slots =
        record {
          counted = omega (arith, home-in, v.limits.counts);
          fits = omega (arith, row-end y s.head.h s.head.slots home-in, v.limits.entries, v.rows.room y home-in);
        }

    pub row-rises : (l : List ℕ) → l ≡ row s y → Rising l
    row-rises l q = rw q (record { rises = v.rows.rising y home-in })

    pub row-mapped : (l : List ℕ) → l ≡ row s y → Mapped l s.columns.logicals
    row-mapped l q = rw q (record { low = λ j h. omega (arith, v.rows.home y (get_or (row s y) j 0) home-in (member-at (row s y) j h), v.maps.columns.g-long) })

    -- how many are listed fits 32 bits
    pub walk-low : (l : List ℕ) (a b n : ℕ) → l ≡ row s y → n ≡ length (walked s.columns.logicals a b l) → n ≤ 65535
    walk-low l a b n q e =
        omega (arith, e, walked-length l s.columns.logicals a b, ap length q, row-length s (edge s) (frame-of s v) y home-in, v.rows.room y home-in, v.limits.slots)

    -- the place i of row y in the tail words
    module _ (i : ℕ) (q : i ≡ y) where
      pub words-in : InRow s.words (words_for s.head.n) i
      words-in = words-fit s v i (omega (arith, q, home-in))

      small : s.head.n ≤ 65535
      small = omega (arith, v.limits.tail, v.maps.wide, v.limits.width)

      pub tail-in : TailRow s.words s.head.n i
      tail-in = record { small = small; row = words-in }

      pub cell_in : (c : ℕ) → edge s ≤ c → c < s.head.w → InTail s.words s.head.n i (c - edge s)
      cell_in c l h = record { small = small; column = omega (arith, v.limits.tail); row = words-in }

  -- z is the place where logical column c, named q in the maps, is kept
  module _ (c q k z : ℕ) (hc : c < edge s) (eq : q ≡ c) (ek : k ≡ home_column s q) (ez : z ≡ k) where
    pub place_is : z ≡ home_column s c
    place_is = ez ∙ ek ∙ ap (home_column s) eq

    z-made : z < s.head.made
    z-made = rw place_is (v.maps.columns.f-below c (omega (arith, v.maps.wide)))

    pub marked : z < length s.index.marks
    marked = omega (arith, z-made, v.limits.marks)

    pub list-in : s.head.on ≡ true → CanList s.index.starts s.index.entries z
    list-in on = means.can-list _ _ _ _ _ _ _ _ (v.index.on on) z z-made v.limits.starts

    pub list-shows : s.head.on ≡ true → (l : List ℕ) → l ≡ list_at s.index.starts s.index.entries z → CanShow l s.rows.homes s.rows.logicals s.head.h
    list-shows on l el = rw (el, place_is) (colones-can s v c hc on)
