-- What the index's functions ask, as tests that antt computes on the arrays of a trial. Assumes nothing.
use mathlib.Core.Path.{◌≡◌}
use mathlib.Core.Bool.{Bool, true, ◌&&◌}
use mathlib.Core.List.{List}
use Prim.Native.Nat.{ℕ, suc, ◌-◌, ◌*◌, ◌≤◌, ◌<◌, min}
use native.Mathlib.Omega.{arith}
use lib.Dec.{leb, ltb, eqb}
use lib.ListN.{length, get_or}
use borrow.Author.Tests.{leb-true, ltb-true, eqb-true}
use Rattle.laws.specs.Parts.{row_of}
use Rattle.laws.specs.Tests.{all_below, zero_from}
use Rattle.laws.proofs.Bools.{and_first, and_second}
use Rattle.laws.proofs.Passes.{all-at, zero-sound}
use Rattle.arraymap.specs.Index.{ones_of, Rows, CanBuild}
use Rattle.arraymap.specs.Show.{CanShow, CanAnswer}
use Rattle.arraymap.specs.Check.{ok_from, CanCheck}
use Rattle.arraymap.proofs.Verdict.{ok-rises, ok-below}
use Rattle.arraymap.proofs.Mapped.{shown-most}

-- ---- rows
unfoldable pub row_test : List ℕ → List ℕ → ℕ → ℕ → ℕ → Bool
row_test slots counts k m y = leb (get_or counts y 0) k && ok_from 0 m (row_of slots counts k y)

unfoldable pub rows_test : List ℕ → List ℕ → ℕ → ℕ → ℕ → Bool
rows_test slots counts h k m = leb h 16777216 && (leb k 65535 && (leb (h * k) (length slots) && (leb h (length counts) && all_below h (row_test slots counts k m))))

rows_of : (slots counts : List ℕ) (h k m : ℕ) → rows_test slots counts h k m ≡ true → Rows slots counts h k m
unfolding rows_test row_test
rows_of slots counts h k m t₁ =
    let t₂ = and_second (leb h 16777216) (leb k 65535 && (leb (h * k) (length slots) && (leb h (length counts) && all_below h (row_test slots counts k m)))) t₁ in
    let t₃ = and_second (leb k 65535) (leb (h * k) (length slots) && (leb h (length counts) && all_below h (row_test slots counts k m))) t₂ in
    let t₄ = and_second (leb (h * k) (length slots)) (leb h (length counts) && all_below h (row_test slots counts k m)) t₃ in
    let at = all-at (row_test slots counts k m) h (and_second (leb h (length counts)) (all_below h (row_test slots counts k m)) t₄) in
    let row : (y : ℕ) → y < h → ok_from 0 m (row_of slots counts k y) ≡ true =
    λ y l. and_second (leb (get_or counts y 0) k) (ok_from 0 m (row_of slots counts k y)) (at y l) in
    record {
      low-h = leb-true h 16777216 (and_first (leb h 16777216) _ t₁);
      low-k = leb-true k 65535 (and_first (leb k 65535) _ t₂);
      room = leb-true (h * k) (length slots) (and_first (leb (h * k) (length slots)) _ t₃);
      long = leb-true h (length counts) (and_first (leb h (length counts)) _ t₄);
      fit = λ y l. leb-true (get_or counts y 0) k (and_first (leb (get_or counts y 0) k) _ (at y l));
      row = λ y l. record { rises = ok-rises 0 m (row_of slots counts k y) (row y l); inside = λ z u. ok-below 0 m (row_of slots counts k y) z (row y l) u };
    }

-- ---- build
pub can-build : (slots counts : List ℕ) (h k m used : ℕ) (starts entries : List ℕ) → rows_test slots counts h k m ≡ true
    → ltb m (length starts) ≡ true → leb (ones_of counts h) (length entries) ≡ true → leb used (length entries) ≡ true
    → zero_from starts (suc m) ≡ true → zero_from entries used ≡ true → CanBuild slots counts h k m used starts entries
can-build slots counts h k m used starts entries r w o u s e = record {
  rows = rows_of slots counts h k m r;
  wide = ltb-true m (length starts) w;
  room = leb-true (ones_of counts h) (length entries) o;
  used-in = leb-true used (length entries) u;
  clean-starts = λ i l. zero-sound starts (suc m) s i l;
  clean-entries = zero-sound entries used e;
}

-- ---- sound
pub can-check : (slots counts : List ℕ) (h k m : ℕ) (starts logical marks : List ℕ) → rows_test slots counts h k m ≡ true
    → ltb m (length starts) ≡ true → leb m (length logical) ≡ true → leb m (length marks) ≡ true → CanCheck slots counts h k m starts logical marks
can-check slots counts h k m starts logical marks r w l n = record {
  rows = rows_of slots counts h k m r;
  wide = ltb-true m (length starts) w;
  homes = leb-true m (length logical) l;
  marked = leb-true m (length marks) n;
}

-- ---- show
-- i is mapped below h, and g takes it back
unfoldable pub back_test : ℕ → List ℕ → List ℕ → ℕ → Bool
back_test h f g i = ltb (get_or f i 0) h && eqb (get_or g (get_or f i 0) 0) i

back_at : (h : ℕ) (f g : List ℕ) → all_below h (back_test h f g) ≡ true → (i : ℕ) → i < h → (get_or f i 0 < h) × (get_or g (get_or f i 0) 0 ≡ i)
unfolding back_test
back_at h f g t i l =
    let u = all-at (back_test h f g) h t i l in (
      ltb-true (get_or f i 0) h (and_first (ltb (get_or f i 0) h) _ u),
      eqb-true (get_or g (get_or f i 0) 0) i (and_second (ltb (get_or f i 0) h) (eqb (get_or g (get_or f i 0) 0) i) u),
    )

pub can-show : (list f g : List ℕ) (h : ℕ) → leb h (length f) ≡ true → leb h (length g) ≡ true → all_below h (back_test h f g) ≡ true → all_below h (back_test h g f) ≡ true
    → ok_from 0 h list ≡ true → CanShow list f g h
can-show list f g h p q b c o = record {
  maps = record {
    f-long = leb-true h (length f) p;
    g-long = leb-true h (length g) q;
    f-below = λ i l. (back_at h f g b i l).0;
    g-below = λ i l. (back_at h g f c i l).0;
    back = λ i l. (back_at h f g b i l).1;
    forth = λ i l. (back_at h g f c i l).1;
  };
  rising = record { rises = ok-rises 0 h list o };
  below = λ y u. ok-below 0 h list y o u;
}

-- eight answers are enough for a range of eight rows
pub can-answer : (list f g : List ℕ) (h a b : ℕ) (answers : List ℕ) → CanShow list f g h → min b h - a ≤ 8 → length answers ≡ 8 → CanAnswer list f g h a b answers
can-answer list f g h a b answers v l e = record { can = v; room = omega (arith, shown-most list f g h v a b) }
