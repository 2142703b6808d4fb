-- COLONES: what each way out leaves and says, and that the definition says the same. Assumes nothing.
use mathlib.Core.Path.{◌≡◌, refl, sym, ◌∙◌}
use mathlib.Core.Bool.{Bool, true, false, not, ◌&&◌}
use mathlib.Core.List.{List}
use Prim.Native.Nat.{ℕ, ◌-◌, ◌≤◌, ◌<◌, min}
use native.Mathlib.Omega.{arith}
use lib.ListN.{length, get_or}
use lib.Dec.{leb, ltb, eqb}
use borrow.Author.Tests.{lt-ltb, le-ltb, le-leb, lt-leb, leb-false, ltb-false, eq-eqb, ne_eqb, eqb-true, not-false}
use Rattle.laws.specs.Plain.{between}
use Rattle.laws.specs.Rows.{member}
use Rattle.laws.specs.Parts.{over, stretch}
use Rattle.laws.proofs.Bools.{quiet-first, quiet-rest}
use Rattle.laws.proofs.Select.{count_most}
use Rattle.arraymap.specs.Index.{list_at}
use Rattle.arraymap.specs.Show.{mapped, shown, CanList, CanAnswer}
use Rattle.table.specs.declared.ColumnRange.{ColumnRange}
use Rattle.table.specs.declared.Op.TheVariants.{ColOnes}
use Rattle.table.specs.Step.{checks, answer}
use Rattle.table.specs.Room.{room_checks, passes}
use Rattle.table.specs.Run.{ok}
use Rattle.model.specs.Store.{Full, edge, home_column, table_of, held_of}
use Rattle.model.specs.WellFormed.{WellFormed}
use Rattle.model.specs.Step.{inner, result_of}
use Rattle.model.proofs.ColOnes.{colones-means}
use Rattle.store_head.specs.Lent.{full_of}
use Rattle.store_head.specs.Refused.{refusal_of}
use Rattle.store_head.proofs.Refuses.{past}
use Rattle.store_head.proofs.QueryPlaces.{place_is, list-in, list-shows}
use Rattle.listings.proofs.QueryLists.{refuses, lists, listed-is}

pub shown-low : (logical l : List ℕ) (a b k : ℕ) → k ≡ length (shown logical a b l) → k ≤ b
unfolding shown
shown-low logical l a b k e = omega (arith, e, count_most (b - a) a (λ r. member r (mapped logical l)))

module _ (p : ColumnRange) (f : Full) where
  pub colones-column : f.store.head.w ≤ p.c → refuses 5 f ≡ result_of f (inner (ColOnes p) f)
  unfolding inner
  colones-column h = rw (le-leb f.store.head.w p.c h)

  module _ (hw : p.c < f.store.head.w) where
    pub colones-side : edge f.store ≤ p.c → refuses 6 f ≡ result_of f (inner (ColOnes p) f)
    unfolding inner
    colones-side h = rw (lt-leb f.store.head.w p.c hw, le-leb (edge f.store) p.c h)

    module _ (hc : p.c < edge f.store) where
      pub colones-phase : f.store.head.on ≡ false → refuses 9 f ≡ result_of f (inner (ColOnes p) f)
      unfolding inner
      colones-phase h = rw (lt-leb f.store.head.w p.c hw, lt-leb (edge f.store) p.c hc, h)

      -- the column's home k, as a place z
      module _ (v : WellFormed f.store) (on : f.store.head.on ≡ true) (q k z : ℕ) (eq : q ≡ p.c) (ek : k ≡ home_column f.store q) (ez : z ≡ k) where
        home : z ≡ home_column f.store p.c
        home = place_is f.store v p.c q k z hc eq ek ez

        pub colones-spent : (get_or f.store.index.marks z 0 ≡ 0 → ⊥) → refuses 11 f ≡ result_of f (inner (ColOnes p) f)
        unfolding inner
        colones-spent h =
            rw (
              lt-leb f.store.head.w p.c hw,
              lt-leb (edge f.store) p.c hc,
              on,
              lt-ltb p.c f.store.head.w hw,
              ne_eqb (get_or f.store.index.marks (home_column f.store p.c) 0) 0 (rw home at h),
            )

        module _ (exact : get_or f.store.index.marks z 0 ≡ 0) (l : List ℕ) (el : l ≡ list_at f.store.index.starts f.store.index.entries z) where
          answer-is : between p.a (min p.b f.store.head.h) (λ r. (table_of f.store).bit r p.c) ≡ shown f.store.rows.logicals p.a p.b l
          answer-is = rw (el, home) (colones-means f.store v p.c hc on (rw home at exact) p.a p.b)

          module _ (n : ℕ) (e : n ≡ length (shown f.store.rows.logicals p.a p.b l)) where
            pub colones-answer : length f.answers < n → refuses 15 f ≡ result_of f (inner (ColOnes p) f)
            unfolding inner
            colones-answer h =
                rw (
                  answer-is,
                  lt-leb f.store.head.w p.c hw,
                  lt-leb (edge f.store) p.c hc,
                  on,
                  lt-ltb p.c f.store.head.w hw,
                  eq-eqb (get_or f.store.index.marks (home_column f.store p.c) 0) 0 (rw home at exact),
                  lt-ltb (length f.answers) (length (shown f.store.rows.logicals p.a p.b l)) (omega arith),
                )

            module _ (h : n ≤ length f.answers) where
              can-answer : CanAnswer l f.store.rows.homes f.store.rows.logicals f.store.head.h p.a p.b f.answers
              can-answer = record { can = list-shows f.store v p.c q k z hc eq ek ez on l el; room = omega arith }

              colones-done : lists (shown f.store.rows.logicals p.a p.b l) f ≡ result_of f (inner (ColOnes p) f)
              unfolding inner
              colones-done =
                  rw (
                    answer-is,
                    lt-leb f.store.head.w p.c hw,
                    lt-leb (edge f.store) p.c hc,
                    on,
                    lt-ltb p.c f.store.head.w hw,
                    eq-eqb (get_or f.store.index.marks (home_column f.store p.c) 0) 0 (rw home at exact),
                    le-ltb (length f.answers) (length (shown f.store.rows.logicals p.a p.b l)) (omega arith),
                  )

              pub colones-is : (i : ℕ) (m : List ℕ)
                  → (i ≡ length (shown f.store.rows.logicals p.a p.b l)) × (m ≡ over (shown f.store.rows.logicals p.a p.b l) f.answers)
                  → record { reply = ok (stretch m 0 i); after = full_of f.store m } ≡ result_of f (inner (ColOnes p) f)
              colones-is i m r = listed-is f (shown f.store.rows.logicals p.a p.b l) m i r.0 r.1 ∙ colones-done

-- nothing refuses COLONES
module _ (p : ColumnRange) (f : Full) (v : WellFormed f.store) (free : 0 ≡ refusal_of (inner (ColOnes p) f)) where
  passed : (passes (checks (ColOnes p) (table_of f.store)) ≡ true) × (passes (room_checks (held_of f).room (ColOnes p) (table_of f.store)) ≡ true)
  passed = past (ColOnes p) f free

  abbrev spent-too : Bool
  spent-too = ltb p.c f.store.head.w && not (eqb (get_or f.store.index.marks (home_column f.store p.c) 0) 0)

  behind-five : not (leb (edge f.store) p.c) && (not (not f.store.head.on) && (not spent-too && true)) ≡ true
  behind-five = quiet-rest (leb f.store.head.w p.c) (not (leb (edge f.store) p.c) && (not (not f.store.head.on) && (not spent-too && true))) passed.0

  behind-six : not (not f.store.head.on) && (not spent-too && true) ≡ true
  behind-six = quiet-rest (leb (edge f.store) p.c) (not (not f.store.head.on) && (not spent-too && true)) behind-five

  pub colones-wide : p.c < f.store.head.w
  colones-wide = leb-false f.store.head.w p.c (quiet-first (leb f.store.head.w p.c) (not (leb (edge f.store) p.c) && (not (not f.store.head.on) && (not spent-too && true))) passed.0)

  colones-sparse : p.c < edge f.store
  colones-sparse = leb-false (edge f.store) p.c (quiet-first (leb (edge f.store) p.c) (not (not f.store.head.on) && (not spent-too && true)) behind-five)

  colones-on : f.store.head.on ≡ true
  colones-on = not-false f.store.head.on (quiet-first (not f.store.head.on) (not spent-too && true) behind-six)

  -- the column's home k, as a place z
  module _ (q k z : ℕ) (eq : q ≡ p.c) (ek : k ≡ home_column f.store q) (ez : z ≡ k) where
    colones-exact : get_or f.store.index.marks z 0 ≡ 0
    colones-exact =
        rw (home p f colones-wide colones-sparse v colones-on q k z eq ek ez)
        (eqb-true (get_or f.store.index.marks (home_column f.store p.c) 0) 0
        (not-false (eqb (get_or f.store.index.marks (home_column f.store p.c) 0) 0)
        (rw (lt-ltb p.c f.store.head.w colones-wide) at (quiet-first spent-too true (quiet-rest (not f.store.head.on) (not spent-too && true) behind-six)))))

    pub colones-gets : CanList f.store.index.starts f.store.index.entries z
    colones-gets = list-in f.store v p.c q k z colones-sparse eq ek ez colones-on

    module _ (l : List ℕ) (el : l ≡ list_at f.store.index.starts f.store.index.entries z) where
      colones-fits : length (shown f.store.rows.logicals p.a p.b l) ≤ length f.answers
      colones-fits =
          rw (sym (answer-is p f colones-wide colones-sparse v colones-on q k z eq ek ez colones-exact l el))
          (ltb-false (length f.answers) (length (answer (ColOnes p) (table_of f.store))) (quiet-first (ltb (length f.answers) (length (answer (ColOnes p) (table_of f.store)))) true passed.1))

      pub colones-shows : CanAnswer l f.store.rows.homes f.store.rows.logicals f.store.head.h p.a p.b f.answers
      colones-shows = can-answer p f colones-wide colones-sparse v colones-on q k z eq ek ez colones-exact l el _ refl colones-fits

      pub colones-told : (i : ℕ) (m : List ℕ)
          → (i ≡ length (shown f.store.rows.logicals p.a p.b l)) × (m ≡ over (shown f.store.rows.logicals p.a p.b l) f.answers)
          → record { reply = ok (stretch m 0 i); after = full_of f.store m } ≡ result_of f (inner (ColOnes p) f)
      colones-told = colones-is p f colones-wide colones-sparse v colones-on q k z eq ek ez colones-exact l el _ refl colones-fits
