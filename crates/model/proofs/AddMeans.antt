-- ADD on a store, whole: the rows' lists, the mark and the tail together. Assumes nothing.
use mathlib.Core.Path.{◌≡◌, refl, sym, ap, ap₂, ◌∙◌, subst}
use mathlib.Core.Bool.{Bool, true, false, not, ◌&&◌, ◌||◌, xor}
use mathlib.Core.Logic.{◌⊎◌, ⊎_elim}
use mathlib.Core.List.{[], ◌∷◌}
use Prim.Native.Nat.{ℕ, ◌≤◌, ◌<◌}
use native.Mathlib.Omega.{arith}
use lib.Dec.{leb, ltb, eqb, leb-zero}
use lib.ListN.{length, get_or, set, length-set}
use borrow.Author.Tests.{ltb-true, ltb-false, lt-ltb, le-leb, lt-leb, eqb-true, eqb-false, eq-eqb, ne_eqb}
use Rattle.laws.specs.Plain.{pick}
use Rattle.laws.specs.Rows.{member, xor_merge}
use Rattle.laws.proofs.Bools.{by-test, or-false, or-true, and-false}
use Rattle.laws.proofs.Maps.{same_test}
use Rattle.laws.proofs.Parts.{set_is}
use Rattle.laws.specs.Words.{words_for}
use Rattle.tail.specs.Tail.{xored}
use Rattle.tail.proofs.Tails.{xored-length}
use Rattle.table.specs.declared.Addition.{Addition}
use Rattle.table.specs.declared.Op.TheVariants.{Add}
use Rattle.table.specs.Step.{after}
use Rattle.model.specs.Store.{Store, edge, row, home_row, home_column, cell, table_of}
use Rattle.model.specs.WellFormed.{WellFormed}
use Rattle.model.specs.Change.{with_marks, add_sparse, spend, add_tail, add_rows}
use Rattle.model.proofs.Same.{same-table}
use Rattle.model.proofs.Rows.{frame-of, words-fit}
use Rattle.model.proofs.SameRoom.{SameRoom, room-then, with_row-room, with_words-room, with_marks-room}
use Rattle.model.proofs.SetCell.{still-off}
use Rattle.model.proofs.AddRows.{add_tail-ok, add_tail-cell, add_sparse-ok, add_sparse-cell, spend-ok, spent-switched}

-- the source's one number, which row y has too
pub record Single (s : Store) (y x : ℕ) : Type 0 where
  pub z : ℕ
  pub one : row s x ≡ z ∷ []
  pub has : member z (row s y) ≡ true

-- what ADD's checks leave: two rows, a start, and from start 0 room for the sum, and with the index on a single one
pub record CanAddRows (s : Store) (p : Addition) : Type 0 where
  pub d-in : p.d < s.head.h
  pub s-in : p.s < s.head.h
  pub differ : p.d ≡ p.s → ⊥
  pub start : (p.start ≡ 0) ⊎ (p.start ≡ edge s)
  pub short : p.start ≡ 0 → length (xor_merge (row s (home_row s p.d)) (row s (home_row s p.s))) ≤ s.head.slots
  pub single : p.start ≡ 0 → s.head.on ≡ true → Single s (home_row s p.d) (home_row s p.s)

-- a cell changed in two steps, of which one touches it
two_steps : (a low : Bool) (u w : Bool) → pick (a && not low) (xor (pick (a && low) (xor u w) u) w) (pick (a && low) (xor u w) u) ≡ pick (a && true) (xor u w) u
two_steps true true u w = refl
two_steps true false u w = refl
two_steps false low u w = refl

module _ (s : Store) (v : WellFormed s) (p : Addition) (can : CanAddRows s p) where
  y : ℕ
  y = home_row s p.d

  x : ℕ
  x = home_row s p.s

  hy : home_row s p.d < s.head.h
  hy = v.maps.rows.f-below p.d can.d-in

  hx : home_row s p.s < s.head.h
  hx = v.maps.rows.f-below p.s can.s-in

  x-is-not-y : eqb (home_row s p.s) (home_row s p.d) ≡ false
  x-is-not-y = same_test s.head.h s.rows.homes s.rows.logicals v.maps.rows p.s p.d can.s-in can.d-in ∙ ne_eqb p.s p.d (λ e. can.differ (sym e))

  -- ---- the three ways
  module _ (z0 : p.start ≡ 0) (off : s.head.on ≡ false) where
    off-ok : WellFormed (add_tail (add_sparse s y x) y x)
    unfolding y x
    off-ok = add_tail-ok (add_sparse s y x) (add_sparse-ok s v y x hy hx (can.short z0) (still-off s v y (xor_merge (row s y) (row s x)) off)) y x hy hx

    off-cell : (q k : ℕ) → q < s.head.h → k < s.head.w
        → cell (add_tail (add_sparse s y x) y x) q k ≡ pick (eqb q y && true) (xor (cell s q k) (cell s x k)) (cell s q k)
    unfolding y x
    off-cell q k hq hk =
        add_tail-cell (add_sparse s y x) (add_sparse-ok s v y x hy hx (can.short z0) (still-off s v y (xor_merge (row s y) (row s x)) off)) y x hy hx q k hk
        ∙ rw (add_sparse-cell s v y x hy hx (can.short z0) q k hq, add_sparse-cell s v y x hy hx (can.short z0) x k hx, x-is-not-y)
        (two_steps (eqb q y) (ltb k (edge s)) (cell s q k) (cell s x k))

  module _ (z0 : p.start ≡ 0) (on : s.head.on ≡ true) where
    z : ℕ
    z = (can.single z0 on).z

    u : Store
    u = with_marks s (set s.index.marks z 1)

    u-ok : WellFormed u
    unfolding u z y x
    u-ok = spend-ok s v y x z hy hx (can.short z0) on (can.single z0 on).one (can.single z0 on).has

    on-sparse : WellFormed (add_sparse u y x)
    unfolding u z y x
    on-sparse = add_sparse-ok u u-ok y x hy hx (can.short z0) (spent-switched s v y x z hy hx (can.short z0) on (can.single z0 on).one (can.single z0 on).has)

    on-ok : WellFormed (add_tail (add_sparse u y x) y x)
    unfolding u z y x
    on-ok = add_tail-ok (add_sparse u y x) on-sparse y x hy hx

    on-cell : (q k : ℕ) → q < s.head.h → k < s.head.w
        → cell (add_tail (add_sparse u y x) y x) q k ≡ pick (eqb q y && true) (xor (cell s q k) (cell s x k)) (cell s q k)
    unfolding u z y x
    on-cell q k hq hk =
        add_tail-cell (add_sparse u y x) on-sparse y x hy hx q k hk
        ∙ rw (add_sparse-cell u u-ok y x hy hx (can.short z0) q k hq, add_sparse-cell u u-ok y x hy hx (can.short z0) x k hx, x-is-not-y)
        (two_steps (eqb q y) (ltb k (edge s)) (cell s q k) (cell s x k))

    is-u : spend s (row s x) ≡ u
    unfolding u z y x
    is-u = ap (spend s) (can.single z0 on).one

    -- the mark of z, as the table has it: column c is sparse and the source has it
    spent-at : (c : ℕ) → ltb c s.head.w && not (eqb (get_or u.index.marks (home_column s c) 0) 0)
        ≡ (ltb c s.head.w && not (eqb (get_or s.index.marks (home_column s c) 0) 0))
        || (true && true && not (leb (edge s) c) && (ltb p.s s.head.h && (ltb c s.head.w && cell s x c)))
    unfolding u z y x member
    spent-at c = by-test (ltb c s.head.w)
        (λ t. let hc : c < s.head.made = omega (arith, ltb-true c s.head.w t, v.maps.wide) in
        rw (t, lt-ltb p.s s.head.h can.s-in, set_is s.index.marks z 1 (home_column s c) (omega (arith, v.rows.home y z hy (can.single z0 on).has, v.limits.marks)))
        (by-test (eqb (home_column s c) z)
        (λ e. let c-low : c < edge s = omega (arith, sym (v.maps.columns.back c hc) ∙ ap (λ (i : ℕ). get_or s.columns.logicals i 0) (eqb-true (home_column s c) z e), v.rows.sparse y z hy (can.single z0 on).has) in
        rw (e, lt-leb (edge s) c c-low, lt-ltb c (edge s) c-low, (can.single z0 on).one, e) (sym (or-true (not (eqb (get_or s.index.marks (home_column s c) 0) 0)))))
        (λ n. rw n (by-test (ltb c (edge s))
        (λ q. rw (q, (can.single z0 on).one, n) (sym (ap (λ b. not (eqb (get_or s.index.marks (home_column s c) 0) 0) || b) (and-false (not (leb (edge s) c))) ∙ or-false (not (eqb (get_or s.index.marks (home_column s c) 0) 0)))))
        (λ q. rw (le-leb (edge s) c (ltb-false c (edge s) q)) (sym (or-false (not (eqb (get_or s.index.marks (home_column s c) 0) 0)))))))))
        (λ n. rw n (sym (nothing (ltb p.s s.head.h) (not (leb (edge s) c)))))
      where
        nothing : (a b : Bool) → (true && true && b && (a && false)) ≡ false
        nothing true true = refl
        nothing true false = refl
        nothing false true = refl
        nothing false false = refl

  -- ---- whichever way
  is-on : (z0 : p.start ≡ 0) (on : s.head.on ≡ true) → add_rows p s ≡ add_tail (add_sparse (u z0 on) y x) y x
  unfolding y x
  is-on z0 on =
      ap (λ b. add_tail (pick b (add_sparse (pick s.head.on (spend s (row s x)) s) y x) s) y x) (eq-eqb p.start 0 z0)
      ∙ ap (λ b. add_tail (add_sparse (pick b (spend s (row s x)) s) y x) y x) on
      ∙ ap (λ w. add_tail (add_sparse w y x) y x) (is-u z0 on)

  is-off : p.start ≡ 0 → s.head.on ≡ false → add_rows p s ≡ add_tail (add_sparse s y x) y x
  unfolding y x
  is-off e off =
      ap (λ b. add_tail (pick b (add_sparse (pick s.head.on (spend s (row s x)) s) y x) s) y x) (eq-eqb p.start 0 e)
      ∙ ap (λ b. add_tail (add_sparse (pick b (spend s (row s x)) s) y x) y x) off

  is-tail : eqb p.start 0 ≡ false → add_rows p s ≡ add_tail s y x
  unfolding y x
  is-tail n = ap (λ b. add_tail (pick b (add_sparse (pick s.head.on (spend s (row s x)) s) y x) s) y x) n

  pub add_ok : WellFormed (add_rows p s)
  unfolding y x
  add_ok = by-test (eqb p.start 0)
      (λ e. let z0 : p.start ≡ 0 = eqb-true p.start 0 e in
      by-test s.head.on
      (λ t. subst (λ (w : Store). WellFormed w) (sym (is-on z0 t)) (on-ok z0 t))
      (λ n. subst (λ (w : Store). WellFormed w) (sym (is-off z0 n)) (off-ok z0 n)))
      (λ n. subst (λ (w : Store). WellFormed w) (sym (is-tail n)) (add_tail-ok s v y x hy hx))

  tail-room : (t : Store) → WellFormed t → t.head.h ≡ s.head.h → SameRoom t (add_tail t y x)
  unfolding y x
  tail-room t w e = with_words-room t (xored t.words (words_for t.head.n) y x) (xored-length t.words (words_for t.head.n) y x (words-fit t w y (rw e hy)))

  sparse-room : (t : Store) (w : WellFormed t) → y < t.head.h → length (xor_merge (row t y) (row t x)) ≤ t.head.slots → SameRoom t (add_sparse t y x)
  sparse-room t w h short = with_row-room t (edge t) (frame-of t w) y h (xor_merge (row t y) (row t x)) short

  pub add-room : SameRoom s (add_rows p s)
  unfolding y x u z
  add-room = by-test (eqb p.start 0)
      (λ e. let z0 : p.start ≡ 0 = eqb-true p.start 0 e in
      by-test s.head.on
      (λ t. subst (λ (w : Store). SameRoom s w) (sym (is-on z0 t))
      (room-then s (add_sparse (u z0 t) y x) (add_tail (add_sparse (u z0 t) y x) y x)
      (room-then s (u z0 t) (add_sparse (u z0 t) y x) (with_marks-room s (set s.index.marks (z z0 t) 1) (length-set s.index.marks (z z0 t) 1)) (sparse-room (u z0 t) (u-ok z0 t) hy (can.short z0)))
      (tail-room (add_sparse (u z0 t) y x) (on-sparse z0 t) refl)))
      (λ n. subst (λ (w : Store). SameRoom s w) (sym (is-off z0 n))
      (room-then s (add_sparse s y x) (add_tail (add_sparse s y x) y x) (sparse-room s v hy (can.short z0))
      (tail-room (add_sparse s y x) (add_sparse-ok s v y x hy hx (can.short z0) (still-off s v y (xor_merge (row s y) (row s x)) n)) refl))))
      (λ n. subst (λ (w : Store). SameRoom s w) (sym (is-tail n)) (tail-room s v refl))

  -- the bits of a store whose cells in row y are added from the start on
  add-bit : (f : ℕ → ℕ → Bool) (from : ℕ → Bool)
      → ((r c : ℕ) → r < s.head.h → c < s.head.w → f r c ≡ pick (eqb (home_row s r) y && from c) (xor (cell s (home_row s r) c) (cell s x c)) (cell s (home_row s r) c))
      → ((c : ℕ) → leb p.start c ≡ from c)
      → (r c : ℕ) → ltb r s.head.h && (ltb c s.head.w && f r c)
      ≡ pick (eqb r p.d && leb p.start c)
      (xor (ltb r s.head.h && (ltb c s.head.w && cell s (home_row s r) c)) (ltb p.s s.head.h && (ltb c s.head.w && cell s x c)))
      (ltb r s.head.h && (ltb c s.head.w && cell s (home_row s r) c))
  unfolding y x xor
  add-bit f from cells starts r c = by-test (ltb r s.head.h)
      (λ t. by-test (ltb c s.head.w)
      (λ q. rw (t, q, lt-ltb p.s s.head.h can.s-in, starts c)
      (cells r c (ltb-true r s.head.h t) (ltb-true c s.head.w q)
      ∙ ap (λ e. pick (e && from c) (xor (cell s (home_row s r) c) (cell s (home_row s p.s) c)) (cell s (home_row s r) c))
      (same_test s.head.h s.rows.homes s.rows.logicals v.maps.rows r p.d (ltb-true r s.head.h t) can.d-in)))
      (λ n. rw (t, n, lt-ltb p.s s.head.h can.s-in) (nothing (eqb r p.d && leb p.start c))))
      (λ n. rw (n, ne_eqb r p.d (λ e. omega (arith, ltb-false r s.head.h n, can.d-in))))
    where
      nothing : (a : Bool) → false ≡ pick a (xor false false) false
      nothing true = refl
      nothing false = refl

  from_zero : p.start ≡ 0 → (c : ℕ) → leb p.start c ≡ true
  from_zero e c = rw e (leb-zero c)

  from-edge : eqb p.start 0 ≡ false → (c : ℕ) → leb p.start c ≡ not (ltb c (edge s))
  from-edge n c =
      let st : p.start ≡ edge s = ⊎_elim (λ e. absurd (eqb-false p.start 0 n e)) (λ e. e) can.start in
      by-test (ltb c (edge s))
      (λ t. rw (t, lt-leb p.start c (omega (arith, ltb-true c (edge s) t))))
      (λ q. rw (q, le-leb p.start c (omega (arith, ltb-false c (edge s) q))))

  -- the marks as the table has them
  old-mark : ℕ → Bool
  old-mark c = ltb c s.head.w && not (eqb (get_or s.index.marks (home_column s c) 0) 0)

  new-mark : Bool → Bool → ℕ → Bool
  new-mark a b c = old-mark c || (a && b && not (leb (edge s) c) && (ltb p.s s.head.h && (ltb c s.head.w && cell s (home_row s p.s) c)))

  no-mark : (a b : Bool) (c : ℕ) → (a && b) ≡ false → old-mark c ≡ new-mark a b c
  unfolding old-mark new-mark
  no-mark a b c e = rw e (sym (or-false (ltb c s.head.w && not (eqb (get_or s.index.marks (home_column s c) 0) 0))))

  pub add-means : table_of (add_rows p s) ≡ after (Add p) (table_of s)
  unfolding y x u z old-mark new-mark
  add-means = by-test (eqb p.start 0)
      (λ e. let z0 : p.start ≡ 0 = eqb-true p.start 0 e in
      by-test s.head.on
      (λ t. ap table_of (is-on z0 t) ∙ same-table s.head.h s.head.w s.head.n s.head.on _ _ _ _ _ _
      (add-bit _ (λ c. true) (λ r c h k. on-cell z0 t (home_row s r) c (v.maps.rows.f-below r h) k) (from_zero z0))
      (λ c. spent-at z0 t c ∙ ap₂ (λ a b. new-mark a b c) (sym t) (sym e)) (λ c. refl))
      (λ n. ap table_of (is-off z0 n) ∙ same-table s.head.h s.head.w s.head.n s.head.on _ _ _ _ _ _
      (add-bit _ (λ c. true) (λ r c h k. off-cell z0 n (home_row s r) c (v.maps.rows.f-below r h) k) (from_zero z0))
      (λ c. no-mark s.head.on (eqb p.start 0) c (rw n)) (λ c. refl)))
      (λ n. ap table_of (is-tail n) ∙ same-table s.head.h s.head.w s.head.n s.head.on _ _ _ _ _ _
      (add-bit _ (λ c. not (ltb c (edge s))) (λ r c h k. add_tail-cell s v y x hy hx (home_row s r) c k) (from-edge n))
      (λ c. no-mark s.head.on (eqb p.start 0) c (rw n (and-false s.head.on))) (λ c. refl))
