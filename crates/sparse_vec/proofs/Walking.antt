-- A row read through the map: counted, and listed. Assumes nothing.
use mathlib.Core.Path.{◌≡◌, refl, sym, ap, ◌∙◌}
use mathlib.Core.Logic.{◌⊎◌, ⊎_elim}
use mathlib.Core.Bool.{Bool, true, false, ◌&&◌}
use mathlib.Core.List.{List, [], ◌∷◌, ◌++◌}
use Prim.Native.Nat.{ℕ, ◌+◌, ◌≤◌, ◌<◌}
use native.Mathlib.Numerals.{add-one}
use native.Mathlib.Omega.{arith}
use lib.Dec.{leb, ltb}
use lib.ListN.{length, get_or, set, take, drop, length-drop, drop_of_length-le}
use lib.Seq.{drop-cons}
use borrow.Author.Tests.{le-leb, lt-leb, lt-ltb, le-ltb}
use Rattle.laws.specs.Plain.{num}
use Rattle.laws.specs.Parts.{put_at, over}
use Rattle.laws.proofs.Bools.{and_last}
use Rattle.laws.proofs.Select.{keep-length}
use Rattle.sparse_vec.specs.Row.{walked}
use Rattle.sparse_vec.specs.Calls.{CanWalk}
use Rattle.sparse_vec.proofs.Filled.{Filled, filled-start, filled-up, filled-done}
use Rattle.sparse_vec.proofs.Steps.{rest_more, rest-head, rest-tail}

-- ---- the logical numbers of a to b-1: the next one, c, is in the range, or it is passed over
module _ (row logical : List ℕ) (a b i z c : ℕ) (h : i < length row) (ez : z ≡ get_or row i 0) (ec : c ≡ get_or logical z 0) where
  walk-in : a ≤ c → c < b → walked logical a b (drop i row) ≡ c ∷ walked logical a b (drop (i + 1) row)
  unfolding walked
  walk-in p q = rw (add-one, drop-cons row i 0 h, ← ez, ← ec, le-leb a c p, lt-ltb c b q)

  walk-out : (c < a) ⊎ (b ≤ c) → walked logical a b (drop i row) ≡ walked logical a b (drop (i + 1) row)
  unfolding walked
  walk-out o = ⊎_elim
      (λ p. rw (add-one, drop-cons row i 0 h, ← ez, ← ec, lt-leb a c p))
      (λ p. rw (add-one, drop-cons row i 0 h, ← ez, ← ec, and_last (leb a c) (ltb c b) (le-ltb c b p)))
      o

pub walk_end : (row logical : List ℕ) (a b i : ℕ) → length row ≤ i → walked logical a b (drop i row) ≡ []
unfolding walked
walk_end row logical a b i h = rw (drop_of_length-le row {i = i} h)

pub walked-length : (row logical : List ℕ) (a b : ℕ) → length (walked logical a b row) ≤ length row
unfolding walked
walked-length [] logical a b = omega arith
walked-length (z ∷ row) logical a b =
    omega (
      arith,
      walked-length row logical a b,
      keep-length (leb a (get_or logical z 0) && ltb (get_or logical z 0) b) (get_or logical z 0) (walked logical a b row),
      num-most (leb a (get_or logical z 0) && ltb (get_or logical z 0) b),
    )
  where
    num-most : (t : Bool) → num t ≤ 1
    num-most true = omega arith
    num-most false = omega arith

-- n numbers of the first i are found
pub record Seen (row logical : List ℕ) (a b i n : ℕ) : Type 0 where
  pub i-le : i ≤ length row
  pub n-le : n ≤ i
  pub n-in : n ≤ length (walked logical a b row)
  pub rest : drop n (walked logical a b row) ≡ walked logical a b (drop i row)

pub seen_start : (row logical : List ℕ) (a b : ℕ) → Seen row logical a b 0 0
seen_start row logical a b = record { i-le = omega arith; n-le = omega arith; n-in = omega arith; rest = refl }

module _ (row logical : List ℕ) (a b i n : ℕ) (N : Seen row logical a b i n) where
  module _ (z c : ℕ) (h : i < length row) (ez : z ≡ get_or row i 0) (ec : c ≡ get_or logical z 0) where
    pub seen-out : (n' : ℕ) → n' ≡ n → (c < a) ⊎ (b ≤ c) → Seen row logical a b (i + 1) n'
    seen-out n' e o = rw e (record { i-le = omega arith; n-le = omega (arith, N.n-le); n-in = N.n-in; rest = N.rest ∙ walk-out row logical a b i z c h ez ec o })

    module _ (p : a ≤ c) (q : c < b) where
      goes_on : drop n (walked logical a b row) ≡ c ∷ walked logical a b (drop (i + 1) row)
      goes_on = N.rest ∙ walk-in row logical a b i z c h ez ec p q

      pub seen-room : n < length (walked logical a b row)
      seen-room = rest_more (walked logical a b row) n c (walked logical a b (drop (i + 1) row)) goes_on

      pub seen-is : get_or (walked logical a b row) n 0 ≡ c
      seen-is = rest-head (walked logical a b row) n c (walked logical a b (drop (i + 1) row)) goes_on

      pub seen-in : (n' : ℕ) → n' ≡ n + 1 → Seen row logical a b (i + 1) n'
      seen-in n' e = rw e (record {
        i-le = omega arith;
        n-le = omega (arith, N.n-le);
        n-in = omega (arith, seen-room);
        rest = rest-tail (walked logical a b row) n c (walked logical a b (drop (i + 1) row)) goes_on;
      })

  pub seen_all : length row ≤ i → n ≡ length (walked logical a b row)
  seen_all h = omega (arith, N.n-in, length-drop n (walked logical a b row), ap length (N.rest ∙ walk_end row logical a b i h))

-- ---- listed to the first places of the answers
pub record Listing (row logical : List ℕ) (a b : ℕ) (o answers : List ℕ) (i n : ℕ) : Type 0 where
  pub seen : Seen row logical a b i n
  pub filled : Filled o answers 0 (length (walked logical a b row)) (walked logical a b row) 0 n

module _ (row logical : List ℕ) (a b : ℕ) (o : List ℕ) (C : CanWalk row logical a b o) where
  pub listing_start : Listing row logical a b o o 0 0
  listing_start = record {
    seen = seen_start row logical a b;
    filled = filled-start o 0 (length (walked logical a b row)) (walked logical a b row) 0 (omega (arith, C.room)) refl (omega arith);
  }

  module _ (answers : List ℕ) (i n : ℕ) (L : Listing row logical a b o answers i n) where
    module _ (z c : ℕ) (h : i < length row) (ez : z ≡ get_or row i 0) (ec : c ≡ get_or logical z 0) where
      pub listing-out : (answers' : List ℕ) (n' : ℕ) → answers' ≡ answers → n' ≡ n → (c < a) ⊎ (b ≤ c) → Listing row logical a b o answers' (i + 1) n'
      listing-out answers' n' f e s = rw (f, e) (record { seen = seen-out row logical a b i n L.seen z c h ez ec n refl s; filled = L.filled })

      pub listing-room : a ≤ c → c < b → n < length answers
      listing-room p q = omega (arith, seen-room row logical a b i n L.seen z c h ez ec p q, C.room, L.filled.same)

      pub listing-in : (answers' : List ℕ) (n' : ℕ) → answers' ≡ set answers n c → n' ≡ n + 1 → a ≤ c → c < b → Listing row logical a b o answers' (i + 1) n'
      listing-in answers' n' f e p q = rw (f, e) (record {
        seen = seen-in row logical a b i n L.seen z c h ez ec p q (n + 1) refl;
        filled = filled-up o answers 0 (length (walked logical a b row)) (walked logical a b row) 0 n L.filled n (n + 1) c (omega arith) (omega arith)
            (seen-room row logical a b i n L.seen z c h ez ec p q) (sym (seen-is row logical a b i n L.seen z c h ez ec p q));
      })

    pub listing-done : length row ≤ i → (n ≡ length (walked logical a b row)) × (answers ≡ over (walked logical a b row) o)
    unfolding over put_at
    listing-done h =
        let all : n ≡ length (walked logical a b row) = seen_all row logical a b i n L.seen h in
        let z : 0 + length (walked logical a b row) ≡ length (walked logical a b row) = omega arith in
        (all, filled-done o answers 0 (length (walked logical a b row)) (walked logical a b row) 0 n L.filled (omega arith) (omega arith) ∙ front (walked logical a b row) o z)
      where
        front : (r o : List ℕ) → 0 + length r ≡ length r → take 0 o ++ (r ++ drop (0 + length r) o) ≡ r ++ drop (length r) o
        front r [] e = rw e
        front r (x ∷ o) e = rw e
