-- SET on a store: it stays well-formed, and its table is the plain table's. Assumes nothing.
use mathlib.Core.Path.{◌≡◌, refl, sym, ap, ◌∙◌}
use mathlib.Core.Bool.{Bool, true, false, not, ◌&&◌}
use mathlib.Core.Logic.{◌⊎◌, inl, inr, ⊎_elim}
use mathlib.Core.List.{List}
use Prim.Native.Nat.{ℕ, ◌-◌, ◌≤◌, ◌<◌}
use native.Mathlib.Omega.{arith}
use lib.Dec.{ltb, eqb}
use lib.ListN.{length, get_or}
use borrow.Author.Tests.{ltb-true, ltb-false, eqb-true, eqb-false, eq-eqb, ne_eqb}
use Rattle.laws.specs.Plain.{pick}
use Rattle.laws.specs.Rows.{member, From}
use Rattle.laws.specs.Words.{words_for}
use Rattle.laws.proofs.Bools.{by-test, not-both}
use Rattle.laws.proofs.Members.{put-member, put-from, take-member, take-from}
use Rattle.laws.proofs.Maps.{same_test}
use Rattle.laws.proofs.Parts.{row-end}
use Rattle.tail.specs.Tail.{tail_bit, tail_put}
use Rattle.tail.proofs.Tails.{tail-put, tail-put-length, tail-put-rest, pad-put}
use Rattle.table.specs.declared.SetCell.{SetCell}
use Rattle.table.specs.declared.Op.TheVariants.{Set}
use Rattle.table.specs.Step.{after}
use Rattle.model.specs.Store.{Store, edge, row, home_row, home_column, cell, table_of}
use Rattle.model.specs.WellFormed.{WellFormed, Switched}
use Rattle.model.specs.Change.{with_row, with_words, set_row, set_at, set_cell}
use Rattle.model.proofs.Same.{same-table, pick-off}
use Rattle.model.proofs.Rows.{frame-of, row_at, with_row-ok, with_words-ok, words-fit}
use Rattle.model.proofs.SameRoom.{SameRoom, with_row-room, with_words-room}

-- what is in a row after a SET at z
pub set-member : (v : Bool) (z x : ℕ) (l : List ℕ) → From 0 l → member x (set_row v z l) ≡ pick (eqb x z) v (member x l)
set-member true z x l r = put-member z x l ∙ by-test (eqb x z) (λ e. rw e) (λ n. rw n)
set-member false z x l r = take-member z x l 0 r ∙ by-test (eqb x z) (λ e. rw e) (λ n. rw n)

pub set-from : (v : Bool) (z : ℕ) (l : List ℕ) → From 0 l → From 0 (set_row v z l)
set-from true z l r = put-from z l 0 (omega arith) r
set-from false z l r = take-from z l 0 r

-- an index that is off stays right while rows change
pub still-off : (s : Store) (v : WellFormed s) (y : ℕ) (l : List ℕ) → s.head.on ≡ false → Switched (with_row s y l)
still-off s v y l off =
    record {
      on = λ e. not-both e off;
      off-starts = v.index.off-starts;
      off-entries = v.index.off-entries;
      off-marks = v.index.off-marks;
    }

module _ (s : Store) (v : WellFormed s) (y c : ℕ) (b : Bool) (hy : y < s.head.h) (hc : c < s.head.w) where
  made-c : c < s.head.made
  made-c = omega (arith, v.maps.wide)

  -- ---- a sparse column, the index off
  module _ (low : c < edge s) (off : s.head.on ≡ false) (short : length (set_row b (home_column s c) (row s y)) ≤ s.head.slots) where
    new : List ℕ
    new = set_row b (home_column s c) (row s y)

    in-new : (z : ℕ) → member z new ≡ true → (z ≡ home_column s c) ⊎ (member z (row s y) ≡ true)
    unfolding new
    in-new z m = by-test (eqb z (home_column s c))
        (λ e. inl (eqb-true z (home_column s c) e))
        (λ n. inr (rw n at (sym (set-member b (home_column s c) z (row s y) (v.rows.rising y hy)) ∙ m)))

    sparse-ok : WellFormed (with_row s y (set_row b (home_column s c) (row s y)))
    unfolding new
    sparse-ok = with_row-ok s v y hy new short
        (set-from b (home_column s c) (row s y) (v.rows.rising y hy))
        (λ z m. ⊎_elim (λ e. rw e (v.maps.columns.f-below c made-c)) (λ o. v.rows.home y z hy o) (in-new z m))
        (λ z m. ⊎_elim (λ e. omega (arith, ap (λ x. get_or s.columns.logicals x 0) e ∙ v.maps.columns.back c made-c)) (λ o. v.rows.sparse y z hy o) (in-new z m))
        (still-off s v y new off)

    sparse-cell : (x k : ℕ) → x < s.head.h → k < s.head.w
        → cell (with_row s y (set_row b (home_column s c) (row s y))) x k ≡ pick (eqb x y && eqb k c) b (cell s x k)
    unfolding new
    sparse-cell x k hx hk = by-test (ltb k (edge s))
        (λ t. rw (t, row_at s (edge s) (frame-of s v) y hy new short x hx) (by-test (eqb x y)
        (λ e. rw (e, eqb-true x y e) (set-member b (home_column s c) (home_column s k) (row s y) (v.rows.rising y hy)
        ∙ rw (same_test s.head.made s.columns.homes s.columns.logicals v.maps.columns k c (omega (arith, v.maps.wide)) made-c)))
        (λ n. rw n)))
        (λ n. rw (n, ne_eqb k c (λ e. omega (arith, ltb-false k (edge s) n))) (sym (pick-off (eqb x y) b (tail_bit s.words s.head.n x (k - edge s)))))

  -- ---- a tail column
  module _ (high : edge s ≤ c) where
    d-in : c - edge s < s.head.n
    d-in = omega (arith, v.limits.tail)

    tail-ok : WellFormed (with_words s (tail_put s.words s.head.n y (c - edge s) b))
    tail-ok = with_words-ok s v (tail_put s.words s.head.n y (c - edge s) b)
        (tail-put-length s.words s.head.n y (c - edge s) b (words-fit s v y hy) d-in)
        (λ q hq. pad-put s.words s.head.n y (c - edge s) b (words-fit s v y hy) d-in q ∙ v.tail.padding q hq)
        (λ i hi. tail-put-rest s.words s.head.n y (c - edge s) b (words-fit s v y hy) d-in i (inr (omega (arith, row-end y s.head.h (words_for s.head.n) hy))) ∙ v.unused.words i hi)

    tail-cell : (x k : ℕ) → x < s.head.h → k < s.head.w
        → cell (with_words s (tail_put s.words s.head.n y (c - edge s) b)) x k ≡ pick (eqb x y && eqb k c) b (cell s x k)
    tail-cell x k hx hk = by-test (ltb k (edge s))
        (λ t. rw (t, ne_eqb k c (λ e. omega (arith, ltb-true k (edge s) t))) (sym (pick-off (eqb x y) b (member (home_column s k) (row s x)))))
        (λ n. rw (n, tail-put s.words s.head.n y (c - edge s) b (words-fit s v y hy) d-in x (k - edge s) (omega (arith, ltb-false k (edge s) n, v.limits.tail)))
        (ap (λ t. pick (eqb x y && t) b (tail_bit s.words s.head.n x (k - edge s))) (shift k (ltb-false k (edge s) n))))
      where
        shift : (k : ℕ) → edge s ≤ k → eqb (k - edge s) (c - edge s) ≡ eqb k c
        shift k l = by-test (eqb k c)
            (λ e. rw e (eq-eqb (k - edge s) (c - edge s) (ap (λ x. x - edge s) (eqb-true k c e))))
            (λ n. let ne : k ≡ c → ⊥ = eqb-false k c n in rw n (ne_eqb (k - edge s) (c - edge s) (λ e. ne (omega arith))))

  -- ---- either
  module _ (can : c < edge s → (s.head.on ≡ false) × (length (set_row b (home_column s c) (row s y)) ≤ s.head.slots)) where
    pub set_at-ok : WellFormed (set_at s y c b)
    set_at-ok = by-test (ltb c (edge s))
        (λ t. rw t (sparse-ok (ltb-true c (edge s) t) (can (ltb-true c (edge s) t)).0 (can (ltb-true c (edge s) t)).1))
        (λ n. rw n (tail-ok (ltb-false c (edge s) n)))

    pub set_at-room : SameRoom s (set_at s y c b)
    set_at-room = by-test (ltb c (edge s))
        (λ t. rw t (with_row-room s (edge s) (frame-of s v) y hy (set_row b (home_column s c) (row s y)) (can (ltb-true c (edge s) t)).1))
        (λ n. rw n (with_words-room s (tail_put s.words s.head.n y (c - edge s) b) (tail-put-length s.words s.head.n y (c - edge s) b (words-fit s v y hy) (d-in (ltb-false c (edge s) n)))))

    pub set_at-cell : (x k : ℕ) → x < s.head.h → k < s.head.w → cell (set_at s y c b) x k ≡ pick (eqb x y && eqb k c) b (cell s x k)
    set_at-cell x k hx hk = by-test (ltb c (edge s))
        (λ t. rw t (sparse-cell (ltb-true c (edge s) t) (can (ltb-true c (edge s) t)).0 (can (ltb-true c (edge s) t)).1 x k hx hk))
        (λ n. rw n (tail-cell (ltb-false c (edge s) n) x k hx hk))

-- SET, where its checks pass: the row has room for what it then holds
module _ (s : Store) (v : WellFormed s) (p : SetCell) (hr : p.r < s.head.h) (hc : p.c < s.head.w)
    (can : p.c < edge s → (s.head.on ≡ false) × (length (set_row (not (eqb p.v 0)) (home_column s p.c) (row s (home_row s p.r))) ≤ s.head.slots)) where
  home-in : home_row s p.r < s.head.h
  home-in = v.maps.rows.f-below p.r hr

  pub set_room : SameRoom s (set_cell p s)
  set_room = set_at-room s v (home_row s p.r) p.c (not (eqb p.v 0)) home-in hc can

  pub set-ok : WellFormed (set_cell p s)
  set-ok = set_at-ok s v (home_row s p.r) p.c (not (eqb p.v 0)) home-in hc can

  -- the bits of a store whose cells differ from those of s at the one place
  set-bit : (x : ℕ → ℕ → Bool)
      → ((r c : ℕ) → r < s.head.h → c < s.head.w → x r c ≡ pick (eqb (home_row s r) (home_row s p.r) && eqb c p.c) (not (eqb p.v 0)) (cell s (home_row s r) c))
      → (r c : ℕ) → ltb r s.head.h && (ltb c s.head.w && x r c)
      ≡ pick (eqb r p.r && eqb c p.c) (not (eqb p.v 0)) (ltb r s.head.h && (ltb c s.head.w && cell s (home_row s r) c))
  set-bit x f r c = by-test (ltb r s.head.h)
      (λ t. by-test (ltb c s.head.w)
      (λ u. rw (t, u) (f r c (ltb-true r s.head.h t) (ltb-true c s.head.w u)
      ∙ ap (λ e. pick (e && eqb c p.c) (not (eqb p.v 0)) (cell s (home_row s r) c))
      (same_test s.head.h s.rows.homes s.rows.logicals v.maps.rows r p.r (ltb-true r s.head.h t) hr)))
      (λ n. rw (t, n, ne_eqb c p.c (λ e. omega (arith, ltb-false c s.head.w n))) (sym (pick-off (eqb r p.r) (not (eqb p.v 0)) false))))
      (λ n. rw (n, ne_eqb r p.r (λ e. omega (arith, ltb-false r s.head.h n))))

  set-cells : (r c : ℕ) → r < s.head.h → c < s.head.w
      → cell (set_cell p s) (home_row s r) c ≡ pick (eqb (home_row s r) (home_row s p.r) && eqb c p.c) (not (eqb p.v 0)) (cell s (home_row s r) c)
  set-cells r c h k = set_at-cell s v (home_row s p.r) p.c (not (eqb p.v 0)) home-in hc can (home_row s r) c (v.maps.rows.f-below r h) k

  pub set-means : table_of (set_cell p s) ≡ after (Set p) (table_of s)
  set-means = by-test (ltb p.c (edge s))
      (λ t. rw t (same-table s.head.h s.head.w s.head.n s.head.on _ _ _ _ _ _ (set-bit _ (rw t at set-cells)) (λ c. refl) (λ c. refl)))
      (λ n. rw n (same-table s.head.h s.head.w s.head.n s.head.on _ _ _ _ _ _ (set-bit _ (rw n at set-cells)) (λ c. refl) (λ c. refl)))
