-- ITER and TAILONES: what each way out leaves and says, and that the definition says the same. Assumes nothing.
use mathlib.Core.Path.{◌≡◌, refl, sym, ap, ◌∙◌}
use mathlib.Core.Bool.{true, false, not, ◌&&◌, ◌||◌}
use mathlib.Core.List.{List}
use Prim.Native.Nat.{ℕ, ◌+◌, ◌-◌, ◌≤◌, ◌<◌}
use native.Mathlib.Omega.{arith}
use lib.Dec.{eqb, leb, ltb}
use lib.ListN.{length}
use borrow.Author.Tests.{lt-ltb, le-ltb, le-leb, lt-leb, leb-false, ltb-false, eq-eqb, ne_eqb, eqb-true, eqb-false, not-false}
use Rattle.laws.specs.Plain.{num, between}
use Rattle.laws.specs.Parts.{over, stretch}
use Rattle.laws.proofs.Bools.{or-true, or-first, or-second, quiet-first, quiet-rest}
use Rattle.laws.proofs.Parts.{over-read}
use Rattle.laws.proofs.Sums.{sum_same}
use Rattle.laws.proofs.Select.{count-sum, count_most}
use Rattle.sparse_vec.specs.Row.{walked}
use Rattle.sparse_vec.specs.Calls.{CanWalk}
use Rattle.tail.specs.Tail.{tail_bit, tail_ones, CanList}
use Rattle.table.specs.declared.RowRange.{RowRange}
use Rattle.table.specs.declared.RowTail.{RowTail}
use Rattle.table.specs.declared.Op.TheVariants.{Iter, TailOnes}
use Rattle.table.specs.Run.{ok, nay}
use Rattle.table.specs.Step.{sort_by, checks, answer}
use Rattle.table.specs.Room.{room_checks, passes}
use Rattle.model.specs.Store.{Full, edge, row, home_row, table_of, held_of}
use Rattle.model.specs.WellFormed.{WellFormed}
use Rattle.model.specs.Step.{inner, Result, result_of}
use Rattle.model.proofs.Walk.{iter-means}
use Rattle.model.proofs.Tail.{tail-ones-means}
use Rattle.store_head.specs.Lent.{full_of}
use Rattle.store_head.specs.Refused.{refusal_of}
use Rattle.store_head.proofs.Refuses.{past}
use Rattle.store_head.proofs.QueryPlaces.{row-mapped, walk-low, tail-in}

-- a refusal leaves all as it was
abbrev pub refuses : ℕ → Full → Result
refuses k f = record { reply = nay k; after = f }

-- the list l over the first places of the answer buffer
abbrev pub lists : List ℕ → Full → Result
lists l f = record { reply = ok l; after = full_of f.store (over l f.answers) }

-- .. is what the code leaves there, and its length
pub listed-is : (f : Full) (l m : List ℕ) (n : ℕ) → n ≡ length l → m ≡ over l f.answers → record { reply = ok (stretch m 0 n); after = full_of f.store m } ≡ lists l f
listed-is f l m n en em = rw (em, en, over-read l f.answers)

-- ---- ITER
module _ (p : RowRange) (f : Full) where
  pub iter-row : f.store.head.h ≤ p.r → refuses 4 f ≡ result_of f (inner (Iter p) f)
  unfolding inner
  iter-row h = rw (le-leb f.store.head.h p.r h)

  module _ (hr : p.r < f.store.head.h) where
    pub iter-side : edge f.store < p.b → refuses 6 f ≡ result_of f (inner (Iter p) f)
    unfolding inner
    iter-side h = rw (lt-leb f.store.head.h p.r hr, lt-ltb (edge f.store) p.b h)

    module _ (v : WellFormed f.store) (hb : p.b ≤ edge f.store) (y : ℕ) (l : List ℕ) (ey : y ≡ home_row f.store p.r) (el : l ≡ row f.store y) where
      walk_is : sort_by (table_of f.store).home (between p.a p.b ((table_of f.store).bit p.r)) ≡ walked f.store.columns.logicals p.a p.b l
      walk_is = rw (el, ey) (iter-means f.store v p.r hr p.a p.b hb)

      pub iter-answer : (k : ℕ) → k ≡ length (walked f.store.columns.logicals p.a p.b l) → length f.answers < k → refuses 15 f ≡ result_of f (inner (Iter p) f)
      unfolding inner
      iter-answer k e h =
          rw (
            lt-leb f.store.head.h p.r hr,
            le-ltb (edge f.store) p.b hb,
            walk_is,
            lt-ltb (length f.answers) (length (walked f.store.columns.logicals p.a p.b l)) (omega arith),
          )

      module _ (k : ℕ) (e : k ≡ length (walked f.store.columns.logicals p.a p.b l)) (h : k ≤ length f.answers) where
        can-walk : CanWalk l f.store.columns.logicals p.a p.b f.answers
        can-walk = record { mapped = row-mapped f.store v p.r y hr ey l el; room = omega arith }

        iter-done : lists (walked f.store.columns.logicals p.a p.b l) f ≡ result_of f (inner (Iter p) f)
        unfolding inner
        iter-done =
            rw (
              lt-leb f.store.head.h p.r hr,
              le-ltb (edge f.store) p.b hb,
              walk_is,
              le-ltb (length f.answers) (length (walked f.store.columns.logicals p.a p.b l)) (omega arith),
            )

        pub iter-is : (n : ℕ) (m : List ℕ)
            → (n ≡ length (walked f.store.columns.logicals p.a p.b l)) × (m ≡ over (walked f.store.columns.logicals p.a p.b l) f.answers)
            → record { reply = ok (stretch m 0 n); after = full_of f.store m } ≡ result_of f (inner (Iter p) f)
        iter-is n m q = listed-is f (walked f.store.columns.logicals p.a p.b l) m n q.0 q.1 ∙ iter-done

-- nothing refuses ITER
module _ (p : RowRange) (f : Full) (v : WellFormed f.store) (free : 0 ≡ refusal_of (inner (Iter p) f)) where
  passed : (passes (checks (Iter p) (table_of f.store)) ≡ true) × (passes (room_checks (held_of f).room (Iter p) (table_of f.store)) ≡ true)
  passed = past (Iter p) f free

  pub iter-low : p.r < f.store.head.h
  iter-low = leb-false f.store.head.h p.r (quiet-first (leb f.store.head.h p.r) (not (ltb (edge f.store) p.b) && true) passed.0)

  iter-sparse : p.b ≤ edge f.store
  iter-sparse =
      ltb-false (edge f.store) p.b
      (quiet-first (ltb (edge f.store) p.b) true (quiet-rest (leb f.store.head.h p.r) (not (ltb (edge f.store) p.b) && true) passed.0))

  module _ (y : ℕ) (l : List ℕ) (ey : y ≡ home_row f.store p.r) (el : l ≡ row f.store y) where
    iter-fits : length (walked f.store.columns.logicals p.a p.b l) ≤ length f.answers
    iter-fits =
        rw (sym (walk_is p f iter-low v iter-sparse y l ey el))
        (ltb-false (length f.answers) (length (answer (Iter p) (table_of f.store))) (quiet-first (ltb (length f.answers) (length (answer (Iter p) (table_of f.store)))) true passed.1))

    pub iter-walks : CanWalk l f.store.columns.logicals p.a p.b f.answers
    iter-walks = can-walk p f iter-low v iter-sparse y l ey el _ refl iter-fits

    pub iter-few : (n : ℕ) → n ≡ length (walked f.store.columns.logicals p.a p.b l) → n ≤ 65535
    iter-few n e = walk-low f.store v p.r y iter-low ey l p.a p.b n el e

    pub iter-told : (n : ℕ) (m : List ℕ)
        → (n ≡ length (walked f.store.columns.logicals p.a p.b l)) × (m ≡ over (walked f.store.columns.logicals p.a p.b l) f.answers)
        → record { reply = ok (stretch m 0 n); after = full_of f.store m } ≡ result_of f (inner (Iter p) f)
    iter-told = iter-is p f iter-low v iter-sparse y l ey el _ refl iter-fits

-- ---- TAILONES

-- there are as many whatever number the first tail column has
base-free : (ws : List ℕ) (n y base : ℕ) → length (tail_ones ws n y 0) ≡ length (tail_ones ws n y base)
unfolding tail_ones
base-free ws n y base =
    count-sum n 0 (λ c. tail_bit ws n y (c - 0))
    ∙ sum_same n (λ i. num (tail_bit ws n y (0 + i - 0))) (λ i. num (tail_bit ws n y (base + i - base))) (λ i h. ap (λ k. num (tail_bit ws n y k)) (omega arith))
    ∙ sym (count-sum n base (λ c. tail_bit ws n y (c - base)))

pub ones_low : (ws : List ℕ) (n y base k : ℕ) → k ≡ length (tail_ones ws n y base) → k ≤ n
unfolding tail_ones
ones_low ws n y base k e = omega (arith, e, count_most n base (λ c. tail_bit ws n y (c - base)))

module _ (p : RowTail) (f : Full) where
  pub tail-row : f.store.head.h ≤ p.r → refuses 4 f ≡ result_of f (inner (TailOnes p) f)
  unfolding inner
  tail-row h = rw (le-leb f.store.head.h p.r h)

  module _ (hr : p.r < f.store.head.h) where
    pub tail-side : (p.a ≡ edge f.store → ⊥) → refuses 6 f ≡ result_of f (inner (TailOnes p) f)
    unfolding inner
    tail-side h = rw (lt-leb f.store.head.h p.r hr, ne_eqb p.a (edge f.store) h)

    pub tail_none : f.store.head.n ≡ 0 → refuses 6 f ≡ result_of f (inner (TailOnes p) f)
    unfolding inner
    tail_none h =
        rw (lt-leb f.store.head.h p.r hr, eq-eqb f.store.head.n 0 h, or-true (not (eqb p.a (edge f.store))))

    module _ (v : WellFormed f.store) (ha : p.a ≡ edge f.store) (hn : f.store.head.n ≡ 0 → ⊥) (y i : ℕ) (ey : y ≡ home_row f.store p.r) (ei : i ≡ y) where
      ones-are : between (edge f.store) f.store.head.w ((table_of f.store).bit p.r) ≡ tail_ones f.store.words f.store.head.n i (edge f.store)
      ones-are = rw (ei, ey) (tail-ones-means f.store v p.r hr)

      module _ (k : ℕ) (e : k ≡ length (tail_ones f.store.words f.store.head.n i 0)) where
        count-is : length (tail_ones f.store.words f.store.head.n i (edge f.store)) ≡ k
        count-is = sym (e ∙ base-free f.store.words f.store.head.n i (edge f.store))

        pub tail-answer : length f.answers < k → refuses 15 f ≡ result_of f (inner (TailOnes p) f)
        unfolding inner
        tail-answer h =
            rw (
              lt-leb f.store.head.h p.r hr,
              eq-eqb p.a (edge f.store) ha,
              ne_eqb f.store.head.n 0 hn,
              ones-are,
              count-is,
              lt-ltb (length f.answers) k h,
            )

        module _ (h : k ≤ length f.answers) where
          can-list : (base : ℕ) → base ≤ f.store.head.w → CanList f.store.words f.store.head.n i base f.answers
          can-list base low =
              let t = tail-in f.store v p.r y hr ey i ei in
              record {
                small = t.small;
                wide = omega (arith, t.small, v.maps.wide, v.limits.width);
                row = t.row;
                room = omega (arith, e, base-free f.store.words f.store.head.n i base);
              }

          tail-done : lists (tail_ones f.store.words f.store.head.n i (edge f.store)) f ≡ result_of f (inner (TailOnes p) f)
          unfolding inner
          tail-done =
              rw (
                lt-leb f.store.head.h p.r hr,
                eq-eqb p.a (edge f.store) ha,
                ne_eqb f.store.head.n 0 hn,
                ones-are,
                count-is,
                le-ltb (length f.answers) k h,
              )

          pub tail-is : (n : ℕ) (m : List ℕ)
              → (n ≡ length (tail_ones f.store.words f.store.head.n i (edge f.store))) × (m ≡ over (tail_ones f.store.words f.store.head.n i (edge f.store)) f.answers)
              → record { reply = ok (stretch m 0 n); after = full_of f.store m } ≡ result_of f (inner (TailOnes p) f)
          tail-is n m q = listed-is f (tail_ones f.store.words f.store.head.n i (edge f.store)) m n q.0 q.1 ∙ tail-done

-- nothing refuses TAILONES
module _ (p : RowTail) (f : Full) (v : WellFormed f.store) (free : 0 ≡ refusal_of (inner (TailOnes p) f)) where
  let_through : (passes (checks (TailOnes p) (table_of f.store)) ≡ true) × (passes (room_checks (held_of f).room (TailOnes p) (table_of f.store)) ≡ true)
  let_through = past (TailOnes p) f free

  apart : not (eqb p.a (edge f.store)) || eqb f.store.head.n 0 ≡ false
  apart =
      quiet-first (not (eqb p.a (edge f.store)) || eqb f.store.head.n 0) true
      (quiet-rest (leb f.store.head.h p.r) (not (not (eqb p.a (edge f.store)) || eqb f.store.head.n 0) && true) let_through.0)

  pub tail-low : p.r < f.store.head.h
  tail-low = leb-false f.store.head.h p.r (quiet-first (leb f.store.head.h p.r) (not (not (eqb p.a (edge f.store)) || eqb f.store.head.n 0) && true) let_through.0)

  pub tail-first : p.a ≡ edge f.store
  tail-first = eqb-true p.a (edge f.store) (not-false (eqb p.a (edge f.store)) (or-first (not (eqb p.a (edge f.store))) (eqb f.store.head.n 0) apart))

  tail-some : f.store.head.n ≡ 0 → ⊥
  tail-some = eqb-false f.store.head.n 0 (or-second (not (eqb p.a (edge f.store))) (eqb f.store.head.n 0) apart)

  module _ (y i : ℕ) (ey : y ≡ home_row f.store p.r) (ei : i ≡ y) where
    tail-fits : length (tail_ones f.store.words f.store.head.n i 0) ≤ length f.answers
    tail-fits =
        rw (base-free f.store.words f.store.head.n i (edge f.store), sym (ones-are p f tail-low v tail-first tail-some y i ey ei))
        (ltb-false (length f.answers) (length (answer (TailOnes p) (table_of f.store))) (quiet-first (ltb (length f.answers) (length (answer (TailOnes p) (table_of f.store)))) true let_through.1))

    -- whatever number the first tail column is given
    pub tail-lists : (base : ℕ) → base ≤ f.store.head.w → CanList f.store.words f.store.head.n i base f.answers
    tail-lists = can-list p f tail-low v tail-first tail-some y i ey ei _ refl tail-fits

    pub tail-told : (n : ℕ) (m : List ℕ)
        → (n ≡ length (tail_ones f.store.words f.store.head.n i (edge f.store))) × (m ≡ over (tail_ones f.store.words f.store.head.n i (edge f.store)) f.answers)
        → record { reply = ok (stretch m 0 n); after = full_of f.store m } ≡ result_of f (inner (TailOnes p) f)
    tail-told = tail-is p f tail-low v tail-first tail-some y i ey ei _ refl tail-fits
