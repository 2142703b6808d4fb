-- ADD on a store: it stays well-formed, and its table is the plain table's. Assumes nothing.
use mathlib.Core.Path.{◌≡◌, refl, sym, ap, ◌∙◌}
use mathlib.Core.Bool.{Bool, true, false, not, ◌&&◌, xor}
use mathlib.Core.Logic.{inr}
use mathlib.Core.List.{List, [], ◌∷◌}
use Prim.Native.Nat.{ℕ, ◌-◌, ◌≤◌, ◌<◌}
use native.Mathlib.Omega.{arith}
use lib.Dec.{ltb, eqb}
use lib.ListN.{length, get_or, set, length-set}
use lib.Seq.{get_or-set_other}
use borrow.Author.Tests.{ltb-false, eqb-true}
use Rattle.laws.specs.Plain.{pick}
use Rattle.laws.specs.Rows.{member, xor_merge}
use Rattle.laws.specs.Words.{words_for}
use Rattle.laws.proofs.Bools.{by-test, not-both, xor-false}
use Rattle.laws.proofs.Merge.{merge-member, merge-from}
use Rattle.laws.proofs.Parts.{row-end, set_is}
use Rattle.tail.specs.Tail.{tail_bit, xored}
use Rattle.tail.proofs.Tails.{tail-xor, pad-xor, xored-length, xored-rest}
use Rattle.model.specs.Store.{Store, edge, row, home_column, cell}
use Rattle.model.specs.WellFormed.{WellFormed, Switched}
use Rattle.model.specs.Change.{with_marks, add_sparse, add_tail}
use Rattle.model.proofs.Same.{pick-off}
use Rattle.model.proofs.Rows.{frame-of, row_at, with_row-ok, with_words-ok, words-fit}
use Rattle.model.proofs.IndexKept.{Asked, index-narrower}

-- ---- the tail words
module _ (s : Store) (v : WellFormed s) (y x : ℕ) (hy : y < s.head.h) (hx : x < s.head.h) where
  pub add_tail-ok : WellFormed (add_tail s y x)
  add_tail-ok = with_words-ok s v (xored s.words (words_for s.head.n) y x)
      (xored-length s.words (words_for s.head.n) y x (words-fit s v y hy))
      (λ q hq. pad-xor s.words s.head.n y x (words-fit s v y hy) (v.tail.padding x hx) q (v.tail.padding q hq))
      (λ i hi. xored-rest s.words (words_for s.head.n) y x (words-fit s v y hy) i (inr (omega (arith, row-end y s.head.h (words_for s.head.n) hy))) ∙ v.unused.words i hi)

  pub add_tail-cell : (q k : ℕ) → k < s.head.w
      → cell (add_tail s y x) q k ≡ pick (eqb q y && not (ltb k (edge s))) (xor (cell s q k) (cell s x k)) (cell s q k)
  add_tail-cell q k hk = by-test (ltb k (edge s))
      (λ t. rw t (sym (pick-off (eqb q y) (xor (member (home_column s k) (row s q)) (member (home_column s k) (row s x))) (member (home_column s k) (row s q)))))
      (λ n. rw (n, tail-xor s.words s.head.n y x (words-fit s v y hy) q (k - edge s) (omega (arith, ltb-false k (edge s) n, v.limits.tail)))
      (on-place (eqb q y) (tail_bit s.words s.head.n q (k - edge s))))
    where
      on-place : (a u : Bool) → pick a (xor u (tail_bit s.words s.head.n x (k - edge s))) u ≡ pick (a && true) (xor u (tail_bit s.words s.head.n x (k - edge s))) u
      on-place true u = refl
      on-place false u = refl

-- ---- the rows' lists
module _ (s : Store) (v : WellFormed s) (y x : ℕ) (hy : y < s.head.h) (hx : x < s.head.h)
    (short : length (xor_merge (row s y) (row s x)) ≤ s.head.slots) where
  sum : List ℕ
  sum = xor_merge (row s y) (row s x)

  sum-member : (z : ℕ) → member z (xor_merge (row s y) (row s x)) ≡ xor (member z (row s y)) (member z (row s x))
  sum-member z = merge-member 0 (row s y) (row s x) z (v.rows.rising y hy) (v.rows.rising x hx)

  -- a number of the sum is a number of one of the two
  in_sum : {P : Type 0} (z : ℕ) → member z (xor_merge (row s y) (row s x)) ≡ true → (member z (row s y) ≡ true → P) → (member z (row s x) ≡ true → P) → P
  in_sum z m f g = by-test (member z (row s y)) f (λ n. by-test (member z (row s x)) g (λ n'. not-both m (sum-member z ∙ rw (n, n') (xor-false false))))

  pub add_sparse-ok : Switched (add_sparse s y x) → WellFormed (add_sparse s y x)
  add_sparse-ok sw = with_row-ok s v y hy (xor_merge (row s y) (row s x)) short
      (merge-from 0 (row s y) (row s x) (v.rows.rising y hy) (v.rows.rising x hx))
      (λ z m. in_sum z m (v.rows.home y z hy) (v.rows.home x z hx))
      (λ z m. in_sum z m (v.rows.sparse y z hy) (v.rows.sparse x z hx))
      sw

  pub add_sparse-cell : (q k : ℕ) → q < s.head.h → cell (add_sparse s y x) q k ≡ pick (eqb q y && ltb k (edge s)) (xor (cell s q k) (cell s x k)) (cell s q k)
  add_sparse-cell q k hq = by-test (ltb k (edge s))
      (λ t. rw (t, row_at s (edge s) (frame-of s v) y hy (xor_merge (row s y) (row s x)) short q hq) (by-test (eqb q y)
      (λ e. rw (e, eqb-true q y e) (sum-member (home_column s k)))
      (λ n. rw n)))
      (λ n. rw n (sym (pick-off (eqb q y) (xor (tail_bit s.words s.head.n q (k - edge s)) (tail_bit s.words s.head.n x (k - edge s))) (tail_bit s.words s.head.n q (k - edge s)))))

-- ---- with the index on: the source has the one number z, and row y has it too
module _ (s : Store) (v : WellFormed s) (y x z : ℕ) (hy : y < s.head.h) (hx : x < s.head.h)
    (short : length (xor_merge (row s y) (row s x)) ≤ s.head.slots)
    (on : s.head.on ≡ true) (one : row s x ≡ z ∷ []) (has : member z (row s y) ≡ true) where
  spent-store : Store
  spent-store = with_marks s (set s.index.marks z 1)

  z-in : z < s.head.made
  z-in = v.rows.home y z hy has

  mark-at : (i : ℕ) → get_or (set s.index.marks z 1) i 0 ≡ pick (eqb i z) 1 (get_or s.index.marks i 0)
  mark-at i = set_is s.index.marks z 1 i (omega (arith, z-in, v.limits.marks))

  mark-low : (i : ℕ) → i < s.head.made → get_or (set s.index.marks z 1) i 0 ≤ 1
  mark-low i h = rw (mark-at i) (by-test (eqb i z) (λ e. rw e (omega arith)) (λ n. rw n ((v.index.on on).mark i h)))

  mark-rest : (i : ℕ) → s.head.made ≤ i → get_or (set s.index.marks z 1) i 0 ≡ 0
  mark-rest i h = get_or-set_other s.index.marks z i 1 0 (λ e. omega (arith, z-in)) ∙ (v.index.on on).rest-marks i h

  -- a column that is still asked is not z, and was asked before
  not-z : (i : ℕ) → Asked s.columns.logicals (set s.index.marks z 1) (edge s) i → eqb i z ≡ false
  not-z i a = by-test (eqb i z) (λ e. absurd (one-is-not (sym (mark-at i ∙ rw e) ∙ a.exact))) (λ n. n)
    where
      one-is-not : ◌≡◌ {A = ℕ} 1 0 → ⊥
      one-is-not q = omega arith

  was-asked : (i : ℕ) → i < s.head.made → Asked s.columns.logicals (set s.index.marks z 1) (edge s) i → Asked s.columns.logicals s.index.marks (edge s) i
  was-asked i h a = record { sparse = a.sparse; exact = sym (mark-at i ∙ rw (not-z i a)) ∙ a.exact }

  pub spend-ok : WellFormed (with_marks s (set s.index.marks z 1))
  spend-ok =
      record {
        maps = record { rows = v.maps.rows; columns = v.maps.columns; wide = v.maps.wide };
        rows = record { room = v.rows.room; rising = v.rows.rising; home = v.rows.home; sparse = v.rows.sparse };
        tail = record { padding = v.tail.padding };
        index =
            record {
              on = λ e. index-narrower (row s) (row s) s.head.h s.head.made s.index.starts s.index.entries s.columns.logicals s.index.marks
                  (set s.index.marks z 1) (edge s) (edge s) (v.index.on e) (λ q i hq k. k) was-asked (λ q i hq hi a k. k) mark-low mark-rest;
              off-starts = v.index.off-starts;
              off-entries = v.index.off-entries;
              off-marks = λ e. not-both on e;
            };
        limits =
            record {
              height = v.limits.height;
              width = v.limits.width;
              tail = v.limits.tail;
              slots = v.limits.slots;
              entries = v.limits.entries;
              counts = v.limits.counts;
              marks = simp length-set v.limits.marks;
              starts = v.limits.starts;
              words = v.limits.words;
            };
        unused =
            record {
              slots = v.unused.slots;
              entries = v.unused.entries;
              counts = v.unused.counts;
              row-homes = v.unused.row-homes;
              row-logicals = v.unused.row-logicals;
              column-homes = v.unused.column-homes;
              column-logicals = v.unused.column-logicals;
              words = v.unused.words;
            };
      }

  -- the rows afterwards
  new_row : (q : ℕ) → q < s.head.h → row (add_sparse s y x) q ≡ pick (eqb q y) (xor_merge (row s y) (row s x)) (row s q)
  new_row q hq = row_at s (edge s) (frame-of s v) y hy (xor_merge (row s y) (row s x)) short q hq

  less : (q i : ℕ) → q < s.head.h → member i (row (add_sparse s y x) q) ≡ true → member i (row s q) ≡ true
  unfolding member
  less q i hq m = by-test (eqb q y)
      (λ e. let q≡y : q ≡ y = eqb-true q y e in
      let sum : member i (xor_merge (row s y) (row s x)) ≡ true = rw (new_row q hq, e) at m in
      rw q≡y (in_sum s v y x hy hx short i sum (λ k. k) (λ k. by-test (eqb i z)
      (λ t. rw (eqb-true i z t) has)
      (λ n. not-both k (ap (member i) one ∙ rw n)))))
      (λ n. rw (new_row q hq, n) at m)

  still : (q i : ℕ) → q < s.head.h → eqb i z ≡ false → member i (row s q) ≡ true → member i (row (add_sparse s y x) q) ≡ true
  unfolding member
  still q i hq ne m = rw (new_row q hq) (by-test (eqb q y)
      (λ e. rw e (sum-member s v y x hy hx short i ∙ rw (rw (eqb-true q y e) at m, ap (member i) one, ne) (xor-false true)))
      (λ n. rw n m))

  pub spent-switched : Switched (add_sparse (with_marks s (set s.index.marks z 1)) y x)
  spent-switched =
      record {
        on = λ e. index-narrower (row s) (row (add_sparse s y x)) s.head.h s.head.made s.index.starts s.index.entries s.columns.logicals
            s.index.marks (set s.index.marks z 1) (edge s) (edge s) (v.index.on e) less was-asked (λ q i hq hi a k. still q i hq (not-z i a) k) mark-low mark-rest;
        off-starts = v.index.off-starts;
        off-entries = v.index.off-entries;
        off-marks = λ e. not-both on e;
      }
