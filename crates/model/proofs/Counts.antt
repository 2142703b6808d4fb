-- What the refusals of SET and ADD look at, in the store's own numbers: how long a row would be, and whether the source has a single one. Assumes nothing.
use mathlib.Core.Path.{◌≡◌, refl, sym, ap, ◌∙◌}
use mathlib.Core.Bool.{Bool, true, false, not, ◌&&◌, ◌||◌}
use mathlib.Core.List.{List, [], ◌∷◌}
use Prim.Native.Nat.{ℕ, suc, ◌+◌, ◌≤◌, ◌<◌}
use native.Mathlib.Omega.{arith}
use lib.Dec.{leb, ltb, eqb, leb-zero}
use lib.ListN.{length, get_or}
use borrow.Author.Tests.{ltb-true, ltb-false, lt-ltb, le-ltb, le-leb, lt-leb, eqb-true, eq-eqb, ne_eqb}
use Rattle.laws.specs.Rows.{member, From, xor_merge}
use Rattle.laws.proofs.Bools.{by-test, not-both, and-false, xor-false}
use Rattle.laws.proofs.Members.{member-head}
use Rattle.laws.proofs.Merge.{merge-member, merge-from}
use Rattle.laws.proofs.Maps.{flip, same_test, test_back}
use Rattle.laws.proofs.Select.{count_same, is-select}
use Rattle.table.specs.declared.SetCell.{SetCell}
use Rattle.table.specs.declared.Addition.{Addition}
use Rattle.table.specs.declared.Op.TheVariants.{Set, Add}
use Rattle.table.specs.Table.{sparse_ones, row_count}
use Rattle.table.specs.Step.{after, not_single}
use Rattle.model.specs.Store.{Store, edge, row, home_row, home_column, logical_column, table_of}
use Rattle.model.specs.WellFormed.{WellFormed}
use Rattle.model.specs.Change.{set_row}
use Rattle.model.proofs.Same.{pick-off}
use Rattle.model.proofs.Rows.{frame-of, row-length}
use Rattle.model.proofs.SetCell.{set-member, set-from}
use Rattle.model.proofs.Walk.{list_count, sparse-bit, row_count_lem}

-- a list that is not of one number is not single
not-one : (l : List ℕ) (p : ℕ → Bool) → (length l ≡ 1 → ⊥) → not_single l p ≡ true
not-one [] p h = refl
not-one (c ∷ []) p h = absurd (h refl)
not-one (c ∷ d ∷ l) p h = refl

both-pass : (a b x : Bool) → a ≡ true → b ≡ true → a && (b && x) ≡ x
both-pass a b x p q = rw (p, q)

second-stops : (a b x : Bool) → b ≡ false → a && (b && x) ≡ false
second-stops a b x p = rw p (and-false a)

module _ (s : Store) (v : WellFormed s) where
  home-in : (r : ℕ) → r < s.head.h → home_row s r < s.head.h
  home-in r h = v.maps.rows.f-below r h

  -- ---- SINGLE
  module _ (e : ℕ) (he : e < s.head.h) (z : ℕ) (q : row s (home_row s e) ≡ z ∷ []) where
    has : member z (row s (home_row s e)) ≡ true
    has = ap (member z) q ∙ member-head z []

    low : logical_column s z < edge s
    low = v.rows.sparse (home_row s e) z (home-in e he) has

    made : z < s.head.made
    made = v.rows.home (home_row s e) z (home-in e he) has

    -- the row's one sparse column, as the table has it
    one-member : (c : ℕ) → member c (logical_column s z ∷ []) ≡ leb 0 c && (ltb c (0 + edge s) && (table_of s).bit e c)
    unfolding member
    one-member c =
        by-test (ltb c (edge s))
        (λ t. let l : c < edge s = ltb-true c (edge s) t in
        ap (λ b. b || false) (test_back s.head.made s.columns.logicals s.columns.homes (flip s.head.made s.columns.homes s.columns.logicals v.maps.columns) c z (omega (arith, v.maps.wide)) made)
        ∙ sym (sparse-bit s v e he c l ∙ ap (member (home_column s c)) q)
        ∙ sym (both-pass (leb 0 c) (ltb c (0 + edge s)) ((table_of s).bit e c) (le-leb 0 c (omega arith)) (lt-ltb c (0 + edge s) (omega arith))))
        (λ n. rw (ne_eqb c (logical_column s z) (λ i. omega (arith, ltb-false c (edge s) n, low)))
        (sym (second-stops (leb 0 c) (ltb c (0 + edge s)) ((table_of s).bit e c) (le-ltb c (0 + edge s) (omega (arith, ltb-false c (edge s) n))))))

    one-column : sparse_ones (table_of s) e ≡ logical_column s z ∷ []
    one-column = sym (is-select (edge s) 0 0 ((table_of s).bit e) (logical_column s z ∷ []) (omega arith, tt) one-member)

  pub single-means : (d e : ℕ) → d < s.head.h → e < s.head.h
      → not_single (sparse_ones (table_of s) e) ((table_of s).bit d) ≡ not_single (row s (home_row s e)) (λ z. member z (row s (home_row s d)))
  single-means d e hd he = go (row s (home_row s e)) refl
    where
      long : length (sparse_ones (table_of s) e) ≡ length (row s (home_row s e))
      long = row_count_lem s v e he ∙ sym (row-length s (edge s) (frame-of s v) (home_row s e) (home-in e he))

      go : (l : List ℕ) → row s (home_row s e) ≡ l → not_single (sparse_ones (table_of s) e) ((table_of s).bit d) ≡ not_single l (λ z. member z (row s (home_row s d)))
      go [] q = not-one (sparse_ones (table_of s) e) ((table_of s).bit d) (λ k. let z : length (row s (home_row s e)) ≡ 0 = ap length q in omega (arith, long))
      go (z ∷ w ∷ l) q = not-one (sparse_ones (table_of s) e) ((table_of s).bit d) (λ k. let y : length (row s (home_row s e)) ≡ suc (suc (length l)) = ap length q in omega (arith, long))
      go (z ∷ []) q = ap (λ k. not_single k ((table_of s).bit d)) (one-column e he z q)
          ∙ ap not (sparse-bit s v d hd (logical_column s z) (low e he z q) ∙ ap (λ k. member k (row s (home_row s d))) (v.maps.columns.forth z (made e he z q)))

  -- ---- SLOTS, for SET: the row afterwards
  pub set-count : (p : SetCell) → p.r < s.head.h → p.c < edge s
      → row_count (after (Set p) (table_of s)) p.r ≡ length (set_row (not (eqb p.v 0)) (home_column s p.c) (row s (home_row s p.r)))
  set-count p hr hc =
      count_same (edge s) ((after (Set p) (table_of s)).bit p.r) (λ c. member (home_column s c) new)
      (λ c l. rw (eq-eqb p.r p.r refl, sparse-bit s v p.r hr c l)
      (sym (set-member b z (home_column s c) old rises
      ∙ rw (same_test s.head.made s.columns.homes s.columns.logicals v.maps.columns c p.c (omega (arith, v.maps.wide)) (omega (arith, v.maps.wide))))))
      ∙ list_count s v new (set-from b z old rises)
      (λ x m. in-new x m (λ e. rw e (v.maps.columns.f-below p.c made-c)) (λ o. v.rows.home (home_row s p.r) x hy o))
      (λ x m. in-new x m (λ e. omega (arith, ap (λ (i : ℕ). get_or s.columns.logicals i 0) e ∙ v.maps.columns.back p.c made-c)) (λ o. v.rows.sparse (home_row s p.r) x hy o))
    where
      b : Bool
      b = not (eqb p.v 0)

      z : ℕ
      z = home_column s p.c

      old : List ℕ
      old = row s (home_row s p.r)

      new : List ℕ
      new = set_row (not (eqb p.v 0)) (home_column s p.c) (row s (home_row s p.r))

      hy : home_row s p.r < s.head.h
      hy = home-in p.r hr

      made-c : p.c < s.head.made
      made-c = omega (arith, v.maps.wide)

      rises : From 0 (row s (home_row s p.r))
      rises = v.rows.rising (home_row s p.r) hy

      in-new : {P : Type 0} (x : ℕ) → member x new ≡ true → (x ≡ z → P) → (member x old ≡ true → P) → P
      in-new x m f g = by-test (eqb x z) (λ e. f (eqb-true x z e)) (λ n. g (rw n at (sym (set-member b z x old rises) ∙ m)))

  -- a SET in the tail leaves the count
  pub set-count-tail : (p : SetCell) → p.r < s.head.h → edge s ≤ p.c → row_count (after (Set p) (table_of s)) p.r ≡ get_or s.slots.counts (home_row s p.r) 0
  set-count-tail p hr hc =
      count_same (edge s) ((after (Set p) (table_of s)).bit p.r) ((table_of s).bit p.r) (λ c l. rw (ne_eqb c p.c (λ e. omega arith)) (pick-off (eqb p.r p.r) (not (eqb p.v 0)) ((table_of s).bit p.r c)))
      ∙ row_count_lem s v p.r hr

  -- ---- SLOTS, for ADD from start 0: the sum
  pub add-count : (p : Addition) → p.d < s.head.h → p.s < s.head.h → p.start ≡ 0
      → row_count (after (Add p) (table_of s)) p.d ≡ length (xor_merge (row s (home_row s p.d)) (row s (home_row s p.s)))
  add-count p hd hs e =
      count_same (edge s) ((after (Add p) (table_of s)).bit p.d) (λ c. member (home_column s c) sum)
      (λ c l. rw (eq-eqb p.d p.d refl, e, leb-zero c, sparse-bit s v p.d hd c l, sparse-bit s v p.s hs c l)
      (sym (merge-member 0 (row s (home_row s p.d)) (row s (home_row s p.s)) (home_column s c) rd rs)))
      ∙ list_count s v sum (merge-from 0 (row s (home_row s p.d)) (row s (home_row s p.s)) rd rs)
      (λ x m. in_sum x m (λ o. v.rows.home (home_row s p.d) x (home-in p.d hd) o) (λ o. v.rows.home (home_row s p.s) x (home-in p.s hs) o))
      (λ x m. in_sum x m (λ o. v.rows.sparse (home_row s p.d) x (home-in p.d hd) o) (λ o. v.rows.sparse (home_row s p.s) x (home-in p.s hs) o))
    where
      rd : From 0 (row s (home_row s p.d))
      rd = v.rows.rising (home_row s p.d) (home-in p.d hd)

      rs : From 0 (row s (home_row s p.s))
      rs = v.rows.rising (home_row s p.s) (home-in p.s hs)

      sum : List ℕ
      sum = xor_merge (row s (home_row s p.d)) (row s (home_row s p.s))

      in_sum : {P : Type 0} (x : ℕ) → member x sum ≡ true → (member x (row s (home_row s p.d)) ≡ true → P) → (member x (row s (home_row s p.s)) ≡ true → P) → P
      in_sum x m f g = by-test (member x (row s (home_row s p.d))) f (λ n. by-test (member x (row s (home_row s p.s))) g
          (λ n'. not-both m (merge-member 0 (row s (home_row s p.d)) (row s (home_row s p.s)) x rd rs ∙ rw (n, n') (xor-false false))))

  -- an ADD at the tail start leaves the count
  pub add-count-tail : (p : Addition) → p.d < s.head.h → p.start ≡ edge s → row_count (after (Add p) (table_of s)) p.d ≡ get_or s.slots.counts (home_row s p.d) 0
  add-count-tail p hd e =
      count_same (edge s) ((after (Add p) (table_of s)).bit p.d) ((table_of s).bit p.d) (λ c l. rw (eq-eqb p.d p.d refl, lt-leb p.start c (omega (arith, e))))
      ∙ row_count_lem s v p.d hd
