-- The index test: its ways out, and that it passes exactly where the index is right. Assumes nothing.
use mathlib.Core.Path.{◌≡◌, refl, sym, ◌∙◌}
use mathlib.Core.Bool.{Bool, true, false, ◌&&◌, false≢true}
use mathlib.Core.List.{List, [], ◌∷◌}
use Prim.Native.Nat.{ℕ, suc, ◌+◌, ◌<◌}
use native.Mathlib.Numerals.{add-one}
use lib.Dec.{leb, ltb, eqb}
use lib.ListN.{length, get_or}
use borrow.Author.Tests.{eqb-true, eqb-false, eq-eqb, lt-ltb, ltb-true, le-leb, leb-true, leb-false}
use Rattle.laws.specs.Rows.{member, From}
use Rattle.laws.specs.Tests.{all_below, zero_from}
use Rattle.laws.proofs.Bools.{by-test, and-true, and_first, and_second, and-false, and-group}
use Rattle.laws.proofs.Members.{member-at, member-head, member-later, member-place}
use Rattle.laws.proofs.Passes.{all-at, all_of, zero-sound, zero-complete}
use Rattle.arraymap.specs.Index.{list_at}
use Rattle.arraymap.specs.Check.{IndexOk, up_at, mark_at, ok_from, list_ok, listed_at, row_listed, holds_at, exact_at, index_test}
use Rattle.arraymap.specs.Steps.{shape_test, Span, Lists}
use Rattle.arraymap.proofs.Tests.{mark-yes, exact-frozen, exact-spent, exact-yes}

-- ---- a list that passes
pub ok-rises : (lo h : ℕ) (l : List ℕ) → ok_from lo h l ≡ true → From lo l
unfolding ok_from
ok-rises lo h [] t = tt
ok-rises lo h (x ∷ l) t =
    let u = and_second (leb lo x) (ltb x h && ok_from (suc x) h l) t in
    (leb-true lo x (and_first (leb lo x) (ltb x h && ok_from (suc x) h l) t), ok-rises (suc x) h l (and_second (ltb x h) (ok_from (suc x) h l) u))

pub ok-below : (lo h : ℕ) (l : List ℕ) (y : ℕ) → ok_from lo h l ≡ true → member y l ≡ true → y < h
unfolding ok_from member
ok-below lo h [] y t m = absurd (false≢true m)
ok-below lo h (x ∷ l) y t m =
    let u = and_second (leb lo x) (ltb x h && ok_from (suc x) h l) t in
    by-test (eqb y x)
    (λ e. rw (eqb-true y x e) (ltb-true x h (and_first (ltb x h) (ok_from (suc x) h l) u)))
    (λ n. ok-below (suc x) h l y (and_second (ltb x h) (ok_from (suc x) h l) u) (rw n at m))

ok_of : (lo h : ℕ) (l : List ℕ) → From lo l → ((y : ℕ) → member y l ≡ true → y < h) → ok_from lo h l ≡ true
unfolding ok_from
ok_of lo h [] r f = refl
ok_of lo h (x ∷ l) r f = and-true (leb lo x) (ltb x h && ok_from (suc x) h l) (le-leb lo x r.0)
    (and-true (ltb x h) (ok_from (suc x) h l) (lt-ltb x h (f x (member-head x l))) (ok_of (suc x) h l r.1 (λ y m. f y (member-later x y l m))))

-- ---- a chain of tests, each asked only where those before it passed: v is p && t
pub asked : (p t v : Bool) → p ≡ true → v ≡ t → v ≡ p && t
asked p t v e q = rw e q

pub not-asked : (p t v : Bool) → p ≡ false → v ≡ p → v ≡ p && t
not-asked p t v e q = rw e (q ∙ e)

-- ---- shape_ok: v₁ to v₆ are what the chain has come to
pub shape-told : (m : ℕ) (S E M : List ℕ) (v₁ v₂ v₃ v₄ v₅ v₆ : Bool) → v₁ ≡ eqb (get_or S 0 0) 0 && all_below m (up_at S) → v₂ ≡ v₁ && leb (get_or S m 0) (length E)
    → v₃ ≡ v₂ && zero_from S (m + 1) → v₄ ≡ v₃ && zero_from E (get_or S m 0) → v₅ ≡ v₄ && zero_from M m → v₆ ≡ v₅ && all_below m (mark_at M) → v₆ ≡ shape_test m S E M
unfolding shape_test
shape-told m S E M v₁ v₂ v₃ v₄ v₅ v₆ e₁ e₂ e₃ e₄ e₅ e₆ = rw (e₅, e₄, e₃, e₂, e₁, add-one) at e₆ ∙ simp and-group

-- ---- sound: what the later tests lean on
module _ (rows : ℕ → List ℕ) (h m : ℕ) (S E logical M : List ℕ) (edge : ℕ) where
  split : index_test rows h m S E logical M edge
      ≡ shape_test m S E M && (all_below m (list_ok S E h) && (all_below h (row_listed S E rows) && all_below m (exact_at rows S E logical M edge)))
  unfolding index_test shape_test
  split = sym (simp and-group)

  module _ (r₁ : Bool) (q₁ : r₁ ≡ shape_test m S E M) where
    pub sound-shape : r₁ ≡ false → false ≡ index_test rows h m S E logical M edge
    sound-shape t = rw (split, sym q₁ ∙ t)

    module _ (r₂ : Bool) (q₂ : r₂ ≡ all_below m (list_ok S E h)) where
      pub sound-lists : r₂ ≡ false → false ≡ index_test rows h m S E logical M edge
      sound-lists t = rw split (simp (sym q₂ ∙ t, and-false))

      -- the two tests that lean on the lists: v is what they come to
      pub sound-told : r₁ ≡ true → r₂ ≡ true → (r₃ : Bool) → r₃ ≡ all_below h (row_listed S E rows) → (v : Bool) → v ≡ r₃ && all_below m (exact_at rows S E logical M edge)
          → v ≡ index_test rows h m S E logical M edge
      sound-told t₁ t₂ r₃ q₃ v e = rw (split, sym q₁ ∙ t₁, sym q₂ ∙ t₂) (rw q₃ at e)

-- the parts of a shape that passes
record Shape (m : ℕ) (S E M : List ℕ) : Type 0 where
  first : eqb (get_or S 0 0) 0 ≡ true
  up : all_below m (up_at S) ≡ true
  end : leb (get_or S m 0) (length E) ≡ true
  starts : zero_from S (suc m) ≡ true
  entries : zero_from E (get_or S m 0) ≡ true
  marks : zero_from M m ≡ true
  mark : all_below m (mark_at M) ≡ true

shape_of : (m : ℕ) (S E M : List ℕ) → shape_test m S E M ≡ true → Shape m S E M
unfolding shape_test
shape_of m S E M t =
    parts (eqb (get_or S 0 0) 0) (all_below m (up_at S)) (leb (get_or S m 0) (length E)) (zero_from S (suc m)) (zero_from E (get_or S m 0)) (zero_from M m) (all_below m (mark_at M)) t
    (λ a b c d e f g. record { first = a; up = b; end = c; starts = d; entries = e; marks = f; mark = g })
  where
    parts : {P : Type 0} (a b c d e f g : Bool) → a && (b && (c && (d && (e && (f && g))))) ≡ true
        → (a ≡ true → b ≡ true → c ≡ true → d ≡ true → e ≡ true → f ≡ true → g ≡ true → P) → P
    parts true true true true true true true t k = k refl refl refl refl refl refl refl
    parts true true true true true true false t k = absurd (false≢true t)
    parts true true true true true false g t k = absurd (false≢true t)
    parts true true true true false f g t k = absurd (false≢true t)
    parts true true true false e f g t k = absurd (false≢true t)
    parts true true false d e f g t k = absurd (false≢true t)
    parts true false c d e f g t k = absurd (false≢true t)
    parts false b c d e f g t k = absurd (false≢true t)

pub span_of : (m : ℕ) (S E M : List ℕ) (r : Bool) → m < length S → r ≡ shape_test m S E M → r ≡ true → Span S E m
unfolding up_at
span_of m S E M r w q t =
    let s = shape_of m S E M (sym q ∙ t) in
    record {
      wide = w;
      up = λ z l. leb-true (get_or S z 0) (get_or S (suc z) 0) (all-at (up_at S) m s.up z l);
      end = leb-true (get_or S m 0) (length E) s.end;
    }

pub lists_of : (S E : List ℕ) (m h : ℕ) (r : Bool) → Span S E m → r ≡ all_below m (list_ok S E h) → r ≡ true → Lists S E m h
unfolding list_ok
lists_of S E m h r s q t = record {
  span = s;
  list = λ z l. ok-rises 0 h (list_at S E z) (all-at (list_ok S E h) m (sym q ∙ t) z l);
  below = λ z y l u. ok-below 0 h (list_at S E z) y (all-at (list_ok S E h) m (sym q ∙ t) z l) u;
}

-- ---- sound and complete
module _ (rows : ℕ → List ℕ) (h m : ℕ) (S E logical M : List ℕ) (edge : ℕ) where
  pub index-sound : index_test rows h m S E logical M edge ≡ true → IndexOk rows h m S E logical M edge
  unfolding up_at list_ok row_listed listed_at exact_at holds_at mark_at
  index-sound t₁ =
      let u₁ = sym (split rows h m S E logical M edge) ∙ t₁ in
      let u₂ = and_second (shape_test m S E M) (all_below m (list_ok S E h) && (all_below h (row_listed S E rows) && all_below m (exact_at rows S E logical M edge))) u₁ in
      let u₃ = and_second (all_below m (list_ok S E h)) (all_below h (row_listed S E rows) && all_below m (exact_at rows S E logical M edge)) u₂ in
      let shape = shape_of m S E M (and_first (shape_test m S E M) _ u₁) in
      let lists = and_first (all_below m (list_ok S E h)) _ u₂ in
      let listed = and_first (all_below h (row_listed S E rows)) _ u₃ in
      let exact = and_second (all_below h (row_listed S E rows)) _ u₃ in
      record {
        first = eqb-true (get_or S 0 0) 0 shape.first;
        up = λ z l. leb-true (get_or S z 0) (get_or S (suc z) 0) (all-at (up_at S) m shape.up z l);
        end = leb-true (get_or S m 0) (length E) shape.end;
        rising = λ z l. ok-rises 0 h (list_at S E z) (all-at (list_ok S E h) m lists z l);
        below = λ z y l u. ok-below 0 h (list_at S E z) y (all-at (list_ok S E h) m lists z l) u;
        all = λ y z l u. member-place (rows y) z u
            (λ j g e. rw e at (all-at (listed_at S E (rows y) y) (length (rows y)) (all-at (row_listed S E rows) h listed y l) j g));
        only = λ z y l a b u. member-place (list_at S E z) y u
            (λ j g e. rw e at (all-at (holds_at rows z (list_at S E z)) (length (list_at S E z))
            (rw (lt-ltb (get_or logical z 0) edge a, eq-eqb (get_or M z 0) 0 b) at (all-at (exact_at rows S E logical M edge) m exact z l)) j g));
        mark = λ z l. leb-true (get_or M z 0) 1 (all-at (mark_at M) m shape.mark z l);
        rest-starts = λ i l. zero-sound S (suc m) shape.starts i l;
        rest-entries = zero-sound E (get_or S m 0) shape.entries;
        rest-marks = zero-sound M m shape.marks;
      }

  pub index-complete : IndexOk rows h m S E logical M edge → index_test rows h m S E logical M edge ≡ true
  unfolding index_test up_at list_ok row_listed listed_at holds_at
  index-complete v =
      and-true _ _ (eq-eqb (get_or S 0 0) 0 v.first)
      (and-true _ _ (all_of (up_at S) m (λ z l. le-leb (get_or S z 0) (get_or S (suc z) 0) (v.up z l)))
      (and-true _ _ (le-leb (get_or S m 0) (length E) v.end)
      (and-true _ _ (zero-complete S (suc m) (λ i l. v.rest-starts i l))
      (and-true _ _ (zero-complete E (get_or S m 0) v.rest-entries)
      (and-true _ _ (zero-complete M m v.rest-marks)
      (and-true _ _ (all_of (mark_at M) m (λ z l. mark-yes M z (v.mark z l)))
      (and-true _ _ (all_of (list_ok S E h) m (λ z l. ok_of 0 h (list_at S E z) (v.rising z l) (λ y u. v.below z y l u)))
      (and-true _ _ (all_of (row_listed S E rows) h (λ y l. all_of (listed_at S E (rows y) y) (length (rows y)) (λ j g. v.all y (get_or (rows y) j 0) l (member-at (rows y) j g))))
      (all_of (exact_at rows S E logical M edge) m exact)))))))))
    where
      exact : (z : ℕ) → z < m → exact_at rows S E logical M edge z ≡ true
      exact z l = by-test (leb edge (get_or logical z 0))
          (λ a. exact-frozen rows S E logical M edge z (leb-true edge (get_or logical z 0) a))
          (λ a. by-test (eqb (get_or M z 0) 0)
          (λ b. exact-yes rows S E logical M edge z (all_of (holds_at rows z (list_at S E z)) (length (list_at S E z))
          (λ j g. v.only z (get_or (list_at S E z) j 0) l (leb-false edge (get_or logical z 0) a) (eqb-true (get_or M z 0) 0 b) (member-at (list_at S E z) j g))))
          (λ b. exact-spent rows S E logical M edge z (eqb-false (get_or M z 0) 0 b)))
