-- A row kept below an edge, and a row tested, through the map; and what the two definitions say of each number. Assumes nothing.
use mathlib.Core.Path.{◌≡◌, refl, sym, ap, ◌∙◌}
use mathlib.Core.Bool.{Bool, true, false, ◌&&◌, ◌||◌, false≢true}
use mathlib.Core.List.{List, [], ◌∷◌}
use Prim.Native.Nat.{ℕ, suc, ◌+◌, ◌-◌, ◌≤◌, ◌<◌}
use native.Mathlib.Numerals.{add-one}
use native.Mathlib.Omega.{arith}
use lib.Dec.{leb, ltb, eqb}
use lib.ListN.{length, get_or, set, drop, length-drop, drop_of_length-le}
use lib.Seq.{drop-cons}
use borrow.Author.Tests.{leb-true, ltb-true, eqb-true, le-leb, lt-leb, lt-ltb, le-ltb}
use Rattle.laws.specs.Plain.{keep}
use Rattle.laws.specs.Rows.{member, From, Rising}
use Rattle.laws.specs.Parts.{part, put_at, pad_to, zeros}
use Rattle.laws.proofs.Bools.{by-test, and_first, and_second, and_last}
use Rattle.laws.proofs.Members.{from-down, member-head, member-later}
use Rattle.laws.proofs.Select.{keep-member, keep-length}
use Rattle.laws.proofs.Sums.{num-le}
use Rattle.laws.proofs.Parts.{zeros-length, part_length, part_at}
use Rattle.sparse_vec.specs.Row.{put_row, kept_below, row_test}
use Rattle.sparse_vec.specs.Calls.{CanRetain}
use Rattle.lent.specs.Stretch.{Stretch}
use Rattle.sparse_vec.proofs.Places.{put-join, row-wider}
use Rattle.sparse_vec.proofs.Filled.{Filled, filled-start, filled-up, filled-done}
use Rattle.sparse_vec.proofs.Steps.{rest_more, rest-head, rest-tail}

-- ---- for callers: the numbers kept
pub kept-member : (row logical : List ℕ) (w z : ℕ) → member z (kept_below logical w row) ≡ ltb (get_or logical z 0) w && member z row
unfolding member kept_below
kept-member [] logical w z = sym (and_last (ltb (get_or logical z 0) w) false refl)
kept-member (x ∷ row) logical w z =
    keep-member (ltb (get_or logical x 0) w) z x (kept_below logical w row)
    ∙ rw (kept-member row logical w z)
    (by-test (eqb z x)
    (λ e. rw (e, eqb-true z x e) (same (ltb (get_or logical x 0) w) (member x row)))
    (λ n. rw n (other (ltb (get_or logical x 0) w) (ltb (get_or logical z 0) w && member z row))))
  where
    same : (t m : Bool) → (t && true) || (t && m) ≡ t && true
    same true m = refl
    same false m = refl

    other : (t m : Bool) → (t && false) || m ≡ m
    other true m = refl
    other false m = refl

pub kept_from : (row logical : List ℕ) (w b : ℕ) → From b row → From b (kept_below logical w row)
unfolding kept_below
kept_from [] logical w b r = tt
kept_from (x ∷ row) logical w b r = go (ltb (get_or logical x 0) w) (kept_below logical w row) (kept_from row logical w (suc x) r.1)
  where
    go : (t : Bool) (l : List ℕ) → From (suc x) l → From b (keep t x l)
    go true l f = (r.0, f)
    go false l f = from-down (suc x) b l (omega (arith, r.0)) f

pub kept-rising : (row logical : List ℕ) (w : ℕ) → Rising row → Rising (kept_below logical w row)
kept-rising row logical w r = record { rises = kept_from row logical w 0 r.rises }

pub kept-length : (row logical : List ℕ) (w : ℕ) → length (kept_below logical w row) ≤ length row
unfolding kept_below
kept-length [] logical w = omega arith
kept-length (x ∷ row) logical w =
    omega (arith, kept-length row logical w, keep-length (ltb (get_or logical x 0) w) x (kept_below logical w row), num-le (ltb (get_or logical x 0) w) true (λ e. refl))

-- ---- the row as it is kept: n of its first i numbers stand in their places
pub record Keeping (S T : List ℕ) (at len : ℕ) (logical : List ℕ) (w i n : ℕ) : Type 0 where
  pub i-le : i ≤ len
  pub n-le : n ≤ i
  pub n-in : n ≤ length (kept_below logical w (part S at len))
  pub rest : drop n (kept_below logical w (part S at len)) ≡ kept_below logical w (drop i (part S at len))
  pub filled : Filled S T at (length (kept_below logical w (part S at len))) (kept_below logical w (part S at len)) 0 n

module _ (S : List ℕ) (at len cap : ℕ) (logical : List ℕ) (w : ℕ) (C : CanRetain S at len cap logical) where
  long : length (part S at len) ≡ len
  long = part_length S at len (omega (arith, C.row.fits, C.row.room))

  pub keeping_start : Keeping S S at len logical w 0 0
  keeping_start = record {
    i-le = omega arith;
    n-le = omega arith;
    n-in = omega arith;
    rest = refl;
    filled = filled-start S at (length (kept_below logical w (part S at len))) (kept_below logical w (part S at len)) 0
        (omega (arith, kept-length (part S at len) logical w, long, C.row.fits, C.row.room)) refl (omega arith);
  }

  module _ (T : List ℕ) (i n : ℕ) (K : Keeping S T at len logical w i n) where
    pub keeping-read : i < len → get_or T (at + i) 0 ≡ get_or (part S at len) i 0
    keeping-read h = K.filled.high (at + i) (omega (arith, K.n-le)) ∙ sym (part_at S at len i h)

    pub keeping-mapped : (z : ℕ) → i < len → z ≡ get_or T (at + i) 0 → z < length logical
    keeping-mapped z h e = omega (arith, C.mapped.low i (omega (arith, long)), keeping-read h)

    module _ (z c : ℕ) (h : i < len) (ez : z ≡ get_or T (at + i) 0) (ec : c ≡ get_or logical z 0) where
      here : z ≡ get_or (part S at len) i 0
      here = ez ∙ keeping-read h

      pub keeping-out : (T' : List ℕ) (n' : ℕ) → T' ≡ T → n' ≡ n → w ≤ c → Keeping S T' at len logical w (i + 1) n'
      unfolding kept_below
      keeping-out T' n' f e p = rw (f, e) (record {
        i-le = omega arith;
        n-le = omega (arith, K.n-le);
        n-in = K.n-in;
        rest = K.rest ∙ rw (add-one, drop-cons (part S at len) i 0 (omega (arith, long)), ← here, ← ec, le-ltb c w p);
        filled = K.filled;
      })

      module _ (p : c < w) where
        goes_on : drop n (kept_below logical w (part S at len)) ≡ z ∷ kept_below logical w (drop (i + 1) (part S at len))
        unfolding kept_below
        goes_on = K.rest ∙ rw (add-one, drop-cons (part S at len) i 0 (omega (arith, long)), ← here, ← ec, lt-ltb c w p)

        pub keeping-in : (T' : List ℕ) (n' : ℕ) → T' ≡ set T (at + n) z → n' ≡ n + 1 → Keeping S T' at len logical w (i + 1) n'
        keeping-in T' n' f e =
            let more : n < length (kept_below logical w (part S at len)) =
            rest_more (kept_below logical w (part S at len)) n z (kept_below logical w (drop (i + 1) (part S at len))) goes_on in
            rw (f, e) (record {
              i-le = omega arith;
              n-le = omega (arith, K.n-le);
              n-in = omega arith;
              rest = rest-tail (kept_below logical w (part S at len)) n z (kept_below logical w (drop (i + 1) (part S at len))) goes_on;
              filled = filled-up S T at (length (kept_below logical w (part S at len))) (kept_below logical w (part S at len)) 0 n K.filled (at + n) (n + 1) z refl (omega arith) more
                  (sym (rest-head (kept_below logical w (part S at len)) n z (kept_below logical w (drop (i + 1) (part S at len))) goes_on));
            })

    pub keeping-clear : Stretch T (at + n) (at + len)
    keeping-clear = record { in_order = omega (arith, K.n-le, K.i-le); in-it = omega (arith, K.filled.same, C.row.fits, C.row.room) }

    pub keeping-done : (W : List ℕ) → len ≤ i → W ≡ put_at T (at + n) (zeros (at + len - (at + n)))
        → (n ≡ length (kept_below logical w (part S at len))) × (W ≡ put_row S at cap (kept_below logical w (part S at len)))
    unfolding put_row pad_to kept_below
    keeping-done W h e =
        let none : drop i (part S at len) ≡ [] = drop_of_length-le (part S at len) {i = i} (omega (arith, long)) in
        let all : n ≡ length (kept_below logical w (part S at len)) =
        omega (arith, K.n-in, length-drop n (kept_below logical w (part S at len)), ap length (K.rest ∙ ap (λ (l : List ℕ). kept_below logical w l) none)) in
        let z : at + len - (at + n) ≡ len - length (kept_below logical w (part S at len)) = omega arith in
        let room : length (kept_below logical w (part S at len)) ≤ len = omega (arith, kept-length (part S at len) logical w, long) in
        let zl : length (zeros (len - length (kept_below logical w (part S at len)))) ≡ len - length (kept_below logical w (part S at len)) =
        zeros-length (len - length (kept_below logical w (part S at len))) in (
          all,
          e ∙ ap (λ (k : ℕ). put_at T (at + n) (zeros k)) z
              ∙ ap (λ (l : List ℕ). put_at l (at + n) (zeros (len - length (kept_below logical w (part S at len)))))
              (filled-done S T at (length (kept_below logical w (part S at len))) (kept_below logical w (part S at len)) 0 n K.filled (omega arith) (omega arith))
              ∙ put-join S at (kept_below logical w (part S at len)) (zeros (len - length (kept_below logical w (part S at len)))) (at + n) (omega arith)
              (omega (arith, zl, C.row.fits, C.row.room))
              ∙ row-wider S at len len cap (kept_below logical w (part S at len)) C.row (omega arith) C.row.room room,
        )

-- ---- the row's share of the store check: what is left to test
pub record Tested (row logical : List ℕ) (edge lo i : ℕ) : Type 0 where
  pub i-le : i ≤ length row
  pub rest : row_test logical edge 0 row ≡ row_test logical edge lo (drop i row)

pub tested-start : (row logical : List ℕ) (edge : ℕ) → Tested row logical edge 0 0
tested-start row logical edge = record { i-le = omega arith; rest = refl }

module _ (row logical : List ℕ) (edge lo i : ℕ) (N : Tested row logical edge lo i) where
  pub tested-done : length row ≤ i → true ≡ row_test logical edge 0 row
  unfolding row_test
  tested-done h = sym (N.rest ∙ rw (drop_of_length-le row {i = i} h))

  module _ (z : ℕ) (h : i < length row) (ez : z ≡ get_or row i 0) where
    now : row_test logical edge 0 row
        ≡ leb lo z && (ltb z (length logical) && (ltb (get_or logical z 0) edge && row_test logical edge (suc z) (drop (suc i) row)))
    unfolding row_test
    now = N.rest ∙ rw (drop-cons row i 0 h, ← ez)

    pub tested_low : z < lo → false ≡ row_test logical edge 0 row
    tested_low p = sym (now ∙ rw (lt-leb lo z p))

    pub tested-out : length logical ≤ z → false ≡ row_test logical edge 0 row
    tested-out p = sym (now ∙ and_last (leb lo z) (ltb z (length logical) && (ltb (get_or logical z 0) edge && row_test logical edge (suc z) (drop (suc i) row))) (rw (le-ltb z (length logical) p)))

    module _ (c : ℕ) (ec : c ≡ get_or logical z 0) (p : lo ≤ z) (q : z < length logical) where
      pub tested-high : edge ≤ c → false ≡ row_test logical edge 0 row
      tested-high r = sym (now ∙ rw (le-leb lo z p, lt-ltb z (length logical) q, ← ec, le-ltb c edge r))

      pub tested-more : c < edge → Tested row logical edge (z + 1) (i + 1)
      tested-more r = record { i-le = omega arith; rest = now ∙ rw (add-one, add-one, le-leb lo z p, lt-ltb z (length logical) q, ← ec, lt-ltb c edge r) }

-- ---- for callers: the test is sound and complete
test-tail : (x : ℕ) (row logical : List ℕ) (edge lo : ℕ) → row_test logical edge lo (x ∷ row) ≡ true → row_test logical edge (suc x) row ≡ true
unfolding row_test
test-tail x row logical edge lo e =
    and_second (ltb (get_or logical x 0) edge) (row_test logical edge (suc x) row)
    (and_second (ltb x (length logical)) (ltb (get_or logical x 0) edge && row_test logical edge (suc x) row)
    (and_second (leb lo x) (ltb x (length logical) && (ltb (get_or logical x 0) edge && row_test logical edge (suc x) row)) e))

test-from : (row logical : List ℕ) (edge lo : ℕ) → row_test logical edge lo row ≡ true → From lo row
unfolding row_test
test-from [] logical edge lo e = tt
test-from (x ∷ row) logical edge lo e = (
  leb-true lo x (and_first (leb lo x) (ltb x (length logical) && (ltb (get_or logical x 0) edge && row_test logical edge (suc x) row)) e),
  test-from row logical edge (suc x) (test-tail x row logical edge lo e),
)

test-head : (x : ℕ) (row logical : List ℕ) (edge lo : ℕ) → row_test logical edge lo (x ∷ row) ≡ true → (x < length logical) × (get_or logical x 0 < edge)
unfolding row_test
test-head x row logical edge lo e =
    let r = and_second (leb lo x) (ltb x (length logical) && (ltb (get_or logical x 0) edge && row_test logical edge (suc x) row)) e in (
      ltb-true x (length logical) (and_first (ltb x (length logical)) (ltb (get_or logical x 0) edge && row_test logical edge (suc x) row) r),
      ltb-true (get_or logical x 0) edge (and_first (ltb (get_or logical x 0) edge) (row_test logical edge (suc x) row)
          (and_second (ltb x (length logical)) (ltb (get_or logical x 0) edge && row_test logical edge (suc x) row) r)),
    )

test-each : (row logical : List ℕ) (edge lo : ℕ) → row_test logical edge lo row ≡ true
    → (z : ℕ) → member z row ≡ true → (z < length logical) × (get_or logical z 0 < edge)
unfolding member
test-each [] logical edge lo e z m = absurd (false≢true m)
test-each (x ∷ row) logical edge lo e z m = by-test (eqb z x)
    (λ t. rw (eqb-true z x t) (test-head x row logical edge lo e))
    (λ n. test-each row logical edge (suc x) (test-tail x row logical edge lo e) z (rw n at m))

pub test-sound : (row logical : List ℕ) (edge : ℕ) → row_test logical edge 0 row ≡ true
    → Rising row × ((z : ℕ) → member z row ≡ true → (z < length logical) × (get_or logical z 0 < edge))
test-sound row logical edge e = (record { rises = test-from row logical edge 0 e }, test-each row logical edge 0 e)

pub test-complete : (row logical : List ℕ) (edge lo : ℕ) → From lo row
    → ((z : ℕ) → member z row ≡ true → (z < length logical) × (get_or logical z 0 < edge)) → row_test logical edge lo row ≡ true
unfolding row_test
test-complete [] logical edge lo r f = refl
test-complete (x ∷ row) logical edge lo r f =
    let g = f x (member-head x row) in
    rw (le-leb lo x r.0, lt-ltb x (length logical) g.0, lt-ltb (get_or logical x 0) edge g.1)
    (test-complete row logical edge (suc x) r.1 (λ z m. f z (member-later x z row m)))
