-- The walk along a home row is what the table lists by rising home number: ITER, COUNT, and how many sparse ones a row has. Assumes nothing.
use mathlib.Core.Path.{◌≡◌, refl, sym, ap, ◌∙◌}
use mathlib.Core.Bool.{Bool, true, false, ◌&&◌, ◌||◌}
use mathlib.Core.List.{List, [], ◌∷◌}
use Prim.Native.Nat.{ℕ, suc, ◌+◌, ◌-◌, ◌≤◌, ◌<◌}
use native.Mathlib.Omega.{arith}
use native.Mathlib.Nat.{sub-zero}
use lib.Dec.{leb, ltb, eqb}
use lib.ListN.{length, get_or}
use borrow.Author.Tests.{ltb-true, ltb-false, leb-true, lt-ltb, le-ltb, le-leb, eqb-true, eqb-false, eq-eqb, ne_eqb}
use Rattle.laws.specs.Plain.{pick, keep, select, between}
use Rattle.laws.specs.Rows.{member, From}
use Rattle.laws.proofs.Bools.{by-test, not-both, and-false}
use Rattle.laws.proofs.Members.{member-head, member-later}
use Rattle.laws.proofs.Sums.{sum_same}
use Rattle.laws.proofs.Maps.{mapped-sum}
use Rattle.laws.proofs.Select.{keep-member, select-same, select-member, select-from, count_same}
use Rattle.sparse_vec.specs.Row.{walked}
use Rattle.arraymap.specs.Index.{ones_of}
use Rattle.table.specs.Table.{row_count, all_ones}
use Rattle.table.specs.Step.{sort_by}
use Rattle.table.proofs.Sorting.{RisingBy, sort-member, sort-rising, sort-length, apart_of, same-by-key}
use Rattle.model.specs.Store.{Store, edge, row, home_row, home_column, logical_column, table_of}
use Rattle.model.specs.WellFormed.{WellFormed}
use Rattle.model.proofs.Rows.{frame-of, row-length}

-- ---- a list walked through a map g whose inverse is f
module _ (g : List ℕ) (f : ℕ → ℕ) where
  -- every number of the list has a logical number below w, and f leads back
  abbrev Homes : ℕ → List ℕ → Type 0
  Homes w l = (z : ℕ) → member z l ≡ true → (f (get_or g z 0) ≡ z) × (get_or g z 0 < w)

  homes-tail : (w x : ℕ) (l : List ℕ) → Homes w (x ∷ l) → Homes w l
  homes-tail w x l h z e = h z (member-later x z l e)

  walk-rising : (w a b m : ℕ) (l : List ℕ) → From m l → Homes w l → RisingBy f m (walked g a b l)
  unfolding walked
  walk-rising w a b m [] r h = tt
  walk-rising w a b m (x ∷ l) r h = go (leb a (get_or g x 0) && ltb (get_or g x 0) b) (walked g a b l) (walk-rising w a b (suc x) l r.1 (homes-tail w x l h))
    where
      back : f (get_or g x 0) ≡ x
      back = (h x (member-head x l)).0

      down : (k k' : ℕ) (q : List ℕ) → k' ≤ k → RisingBy f k q → RisingBy f k' q
      down k k' [] le q = tt
      down k k' (y ∷ ys) le q = (omega (arith, q.0), q.1)

      go : (c : Bool) (q : List ℕ) → RisingBy f (suc x) q → RisingBy f m (keep c (get_or g x 0) q)
      go true q z = (rw back r.0, rw back z)
      go false q z = down (suc x) m q (omega (arith, r.0)) z

  walk-member : (w a b c : ℕ) (l : List ℕ) → b ≤ w → ((k : ℕ) → k < w → get_or g (f k) 0 ≡ k) → Homes w l
      → member c (walked g a b l) ≡ (leb a c && ltb c b) && member (f c) l
  unfolding walked member
  walk-member w a b c [] hb i h = sym (and-false (leb a c && ltb c b))
  walk-member w a b c (x ∷ l) hb i h =
      keep-member (leb a (get_or g x 0) && ltb (get_or g x 0) b) c (get_or g x 0) (walked g a b l)
      ∙ rw (walk-member w a b c l hb i (homes-tail w x l h)) (by-test (ltb c b)
      (λ lt. let hc : c < w = omega (arith, ltb-true c b lt) in
      by-test (eqb c (get_or g x 0))
      (λ e. let c≡ : get_or g x 0 ≡ c = sym (eqb-true c (get_or g x 0) e) in
      let fc≡ : eqb (f c) x ≡ true = eq-eqb (f c) x (ap f (sym c≡) ∙ (h x (member-head x l)).0) in
      rw (e, c≡, lt, fc≡) (there (leb a c) (member (f c) l)))
      (λ n. rw (n, ne_eqb (f c) x (λ q. eqb-false c (get_or g x 0) n (sym (i c hc) ∙ ap (λ z. get_or g z 0) q))) (skip (leb a (get_or g x 0) && ltb (get_or g x 0) b) ((leb a c && ltb c b) && member (f c) l))))
      (λ ge. by-test (eqb c (get_or g x 0))
      (λ e. let c≡ : get_or g x 0 ≡ c = sym (eqb-true c (get_or g x 0) e) in rw (e, c≡, ge) (gone (leb a c) (eqb (f c) x) (member (f c) l)))
      (λ n. rw (n, ge) (gone' (leb a (get_or g x 0) && ltb (get_or g x 0) b) (leb a c) (eqb (f c) x) (member (f c) l)))))
    where
      gone : (q y s : Bool) → ((q && false) && true) || ((q && false) && s) ≡ (q && false) && (y || s)
      gone true y s = refl
      gone false y s = refl

      gone' : (u q y s : Bool) → (u && false) || ((q && false) && s) ≡ (q && false) && (y || s)
      gone' true true y s = refl
      gone' true false y s = refl
      gone' false true y s = refl
      gone' false false y s = refl

      there : (q s : Bool) → ((q && true) && true) || ((q && true) && s) ≡ (q && true) && true
      there true s = refl
      there false s = refl

      skip : (b c : Bool) → (b && false) || c ≡ c
      skip true c = refl
      skip false c = refl

-- all of a list whose logical numbers lie below b is walked
walk-all : (g : List ℕ) (b : ℕ) (l : List ℕ) → ((z : ℕ) → member z l ≡ true → get_or g z 0 < b) → length (walked g 0 b l) ≡ length l
unfolding walked
walk-all g b [] h = refl
walk-all g b (x ∷ l) h =
    rw (le-leb 0 (get_or g x 0) (omega arith), lt-ltb (get_or g x 0) b (h x (member-head x l)))
    (ap suc (walk-all g b l (λ z m. h z (member-later x z l m))))

-- ---- a rising list of home columns of a store, each with a sparse logical number
module _ (s : Store) (v : WellFormed s) (l : List ℕ) (rises : From 0 l)
    (made : (z : ℕ) → member z l ≡ true → z < s.head.made) (sparse : (z : ℕ) → member z l ≡ true → logical_column s z < edge s) where
  home : ℕ → ℕ
  home c = pick (ltb c s.head.w) (home_column s c) 0

  has : ℕ → Bool
  has c = member (home_column s c) l

  homes : (z : ℕ) → member z l ≡ true → (home (logical_column s z) ≡ z) × (logical_column s z < s.head.w)
  unfolding home
  homes z e =
      let low : logical_column s z < edge s = sparse z e in
      let w-low : logical_column s z < s.head.w = omega arith in
      (rw (lt-ltb (logical_column s z) s.head.w w-low) (v.maps.columns.forth z (made z e)), w-low)

  back : (k : ℕ) → k < s.head.w → logical_column s (home k) ≡ k
  unfolding home
  back k h = rw (lt-ltb k s.head.w h) (v.maps.columns.back k (omega (arith, v.maps.wide)))

  module _ (a b : ℕ) (hb : b ≤ edge s) where
    listed-member : (c : ℕ) → member c (between a b (λ c. member (home_column s c) l)) ≡ (leb a c && ltb c b) && member (home c) l
    unfolding home
    listed-member c = select-member (b - a) a c (λ c. member (home_column s c) l) ∙ by-test (leb a c)
        (λ t. by-test (ltb c b)
        (λ lt. let cw : c < s.head.w = omega (arith, ltb-true c b lt) in
        rw (t, lt, lt-ltb c (a + (b - a)) (omega (arith, leb-true a c t, ltb-true c b lt)), lt-ltb c s.head.w cw))
        (λ ge. rw (t, ge, le-ltb c (a + (b - a)) (omega (arith, leb-true a c t, ltb-false c b ge)))))
        (λ n. rw n)

    below : (c : ℕ) → member c (between a b (λ c. member (home_column s c) l)) ≡ true → c < s.head.w
    below c e = by-test (ltb c b)
        (λ t. omega (arith, ltb-true c b t))
        (λ n. not-both e (listed-member c ∙ rw n (none (leb a c) (member (home c) l))))
      where
        none : (q m : Bool) → (q && false) && m ≡ false
        none true m = refl
        none false m = refl

    one_key : (x z : ℕ) → member x (between a b (λ c. member (home_column s c) l)) ≡ true → member z (between a b (λ c. member (home_column s c) l)) ≡ true → home x ≡ home z → x ≡ z
    one_key x z ex ez q = sym (back x (below x ex)) ∙ ap (logical_column s) q ∙ back z (below z ez)

    -- by rising home number they are the walk along the list
    pub walk-sorted : sort_by (table_of s).home (between a b (λ c. member (home_column s c) l)) ≡ walked s.columns.logicals a b l
    unfolding home
    walk-sorted =
        same-by-key home (sort_by home (between a b (λ c. member (home_column s c) l))) (walked s.columns.logicals a b l) 0 0
        (sort-rising home (between a b (λ c. member (home_column s c) l)) (apart_of home (between a b (λ c. member (home_column s c) l)) a (select-from (b - a) a (λ c. member (home_column s c) l)) one_key))
        (walk-rising s.columns.logicals home s.head.w a b 0 l rises homes)
        (λ c. sort-member home c (between a b (λ c. member (home_column s c) l)) ∙ listed-member c
        ∙ sym (walk-member s.columns.logicals home s.head.w a b c l (omega arith) back homes))

    pub walk-count : length (between a b (λ c. member (home_column s c) l)) ≡ length (walked s.columns.logicals a b l)
    walk-count = sym (sort-length (table_of s).home (between a b (λ c. member (home_column s c) l))) ∙ ap length walk-sorted

  -- the sparse columns that the list has are as many as its numbers
  pub list_count : length (select (edge s) 0 (λ c. member (home_column s c) l)) ≡ length l
  list_count =
      ap (λ k. length (select k 0 (λ c. member (home_column s c) l))) (sym (sub-zero (edge s)))
      ∙ walk-count 0 (edge s) (omega arith)
      ∙ walk-all s.columns.logicals (edge s) l sparse

-- ---- a row of a store
module _ (s : Store) (v : WellFormed s) (r : ℕ) (hr : r < s.head.h) where
  y-in : home_row s r < s.head.h
  y-in = v.maps.rows.f-below r hr

  -- a sparse column's bit is in the row's list
  pub sparse-bit : (c : ℕ) → c < edge s → (table_of s).bit r c ≡ member (home_column s c) (row s (home_row s r))
  sparse-bit c h = rw (lt-ltb r s.head.h hr, lt-ltb c s.head.w (omega arith), lt-ltb c (edge s) h)

  same-range : (a b : ℕ) → b ≤ edge s → between a b ((table_of s).bit r) ≡ between a b (λ c. member (home_column s c) (row s (home_row s r)))
  same-range a b hb = select-same (b - a) a ((table_of s).bit r) (λ c. member (home_column s c) (row s (home_row s r))) (λ c l m. sparse-bit c (omega arith))

  -- ITER
  pub iter-means : (a b : ℕ) → b ≤ edge s → sort_by (table_of s).home (between a b ((table_of s).bit r)) ≡ walked s.columns.logicals a b (row s (home_row s r))
  iter-means a b hb =
      ap (sort_by (table_of s).home) (same-range a b hb)
      ∙ walk-sorted s v (row s (home_row s r)) (v.rows.rising (home_row s r) y-in) (λ z m. v.rows.home (home_row s r) z y-in m) (λ z m. v.rows.sparse (home_row s r) z y-in m) a b hb

  -- COUNT
  pub count-means : (a b : ℕ) → b ≤ edge s → length (between a b ((table_of s).bit r)) ≡ length (walked s.columns.logicals a b (row s (home_row s r)))
  count-means a b hb = sym (sort-length (table_of s).home (between a b ((table_of s).bit r))) ∙ ap length (iter-means a b hb)

  -- how many sparse ones row r has
  pub row_count_lem : row_count (table_of s) r ≡ get_or s.slots.counts (home_row s r) 0
  row_count_lem =
      count_same (edge s) ((table_of s).bit r) (λ c. member (home_column s c) (row s (home_row s r))) sparse-bit
      ∙ list_count s v (row s (home_row s r)) (v.rows.rising (home_row s r) y-in) (λ z m. v.rows.home (home_row s r) z y-in m) (λ z m. v.rows.sparse (home_row s r) z y-in m)
      ∙ row-length s (edge s) (frame-of s v) (home_row s r) y-in

-- all sparse ones
pub all_ones_lem : (s : Store) → WellFormed s → all_ones (table_of s) ≡ ones_of s.slots.counts s.head.h
unfolding ones_of
all_ones_lem s v =
    sum_same s.head.h (row_count (table_of s)) (λ r. get_or s.slots.counts (home_row s r) 0) (λ r h. row_count_lem s v r h)
    ∙ mapped-sum s.head.h s.rows.homes s.rows.logicals v.maps.rows (λ y. get_or s.slots.counts y 0)
