-- The store check as a whole: where it stops, what a part that passed says to those after it, and the last part's word. Assumes nothing.
use mathlib.Core.Path.{◌≡◌, sym, ◌∙◌}
use mathlib.Core.Bool.{Bool, true, false, ◌&&◌}
use Prim.Native.Nat.{ℕ, suc, ◌*◌, ◌≤◌, ◌<◌}
use native.Mathlib.Omega.{arith}
use lib.Dec.{leb}
use lib.ListN.{length, get_or, take}
use lib.Seq.{length-take-le}
use borrow.Author.Tests.{leb-true}
use Rattle.laws.specs.Plain.{pick}
use Rattle.laws.specs.Tests.{all_below}
use Rattle.laws.specs.Words.{words_for}
use Rattle.laws.proofs.Bools.{and_first, and_second, and-false}
use Rattle.laws.proofs.Passes.{all-at}
use Rattle.table.specs.Step.{height_limit, width_limit, slot_limit}
use Rattle.sparse_vec.specs.Row.{row_test}
use Rattle.sparse_vec.proofs.Keeping.{test-sound}
use Rattle.tail.specs.Tail.{pad_clear}
use Rattle.permutation.specs.Maps.{inverse_test}
use Rattle.permutation.proofs.Inverse.{inverse-sound}
use Rattle.arraymap.specs.Index.{RowOk}
use Rattle.model.specs.Store.{Store, Head, edge, row}
use Rattle.model.specs.Check.{head_test, length_test, maps_test, row_at, unused_test, on_test, off_test, well_formed}
use Rattle.model.specs.WellFormed.{Limits}
use Rattle.arraymap.specs.Check.{CanCheck}
use Rattle.store_check.specs.Asked.{Limited, HasRows, HasIndex}

-- what an answer a says of the test b that it computes, by the way that an `if` on it went
pub said : {a b v : Bool} → a ≡ b → a ≡ v → b ≡ v
said q t = sym q ∙ t

-- ---- what the head's test says
module _ (d : Head) (t : head_test d ≡ true) where
  -- behind the first of its five parts, the second and the third
  t₂ : leb d.made width_limit && (leb d.w d.made && (leb d.n d.w && leb d.slots slot_limit)) ≡ true
  unfolding head_test
  t₂ = and_second (leb d.h height_limit) _ t

  t₃ : leb d.w d.made && (leb d.n d.w && leb d.slots slot_limit) ≡ true
  t₃ = and_second (leb d.made width_limit) _ t₂

  t₄ : leb d.n d.w && leb d.slots slot_limit ≡ true
  t₄ = and_second (leb d.w d.made) _ t₃

  pub limited : Limited d
  unfolding head_test
  limited = record {
    height = leb-true d.h height_limit (and_first _ _ t);
    width = leb-true d.made width_limit (and_first _ _ t₂);
    made = leb-true d.w d.made (and_first _ _ t₃);
    tail = leb-true d.n d.w (and_first _ _ t₄);
    slots = leb-true d.slots slot_limit (and_second (leb d.n d.w) _ t₄);
  }

-- ---- any part that fails, fails the store, and where all passed the last decides
module _ (s : Store) where
  pub fails-head : head_test s.head ≡ false → false ≡ well_formed s
  unfolding well_formed
  fails-head t = rw t

  pub fails-lengths : length_test s ≡ false → false ≡ well_formed s
  unfolding well_formed
  fails-lengths t = simp (t, and-false)

  pub fails-maps : maps_test s ≡ false → false ≡ well_formed s
  unfolding well_formed
  fails-maps t = simp (t, and-false)

  pub fails-unused : unused_test s ≡ false → false ≡ well_formed s
  unfolding well_formed
  fails-unused t = simp (t, and-false)

  pub fails-rows : all_below s.head.h (row_at s) ≡ false → false ≡ well_formed s
  unfolding well_formed
  fails-rows t = simp (t, and-false)

  pub fails-padding : all_below s.head.h (pad_clear s.words s.head.n) ≡ false → false ≡ well_formed s
  unfolding well_formed
  fails-padding t = simp (t, and-false)

  pub verdict : head_test s.head ≡ true → length_test s ≡ true → maps_test s ≡ true → unused_test s ≡ true → all_below s.head.h (row_at s) ≡ true
      → all_below s.head.h (pad_clear s.words s.head.n) ≡ true → (r : Bool) → r ≡ pick s.head.on (on_test s) (off_test s) → r ≡ well_formed s
  unfolding well_formed
  verdict t l m u o p r q = rw (t, l, m, u, o, p) q

-- ---- what a part that passed says to those after it
module _ (s : Store) (t : head_test s.head ≡ true) (u : length_test s ≡ true) where
  -- behind the first of the five lengths, the second and the third
  l₂ : leb s.head.h (length s.slots.counts) && (leb s.head.made (length s.index.marks)
      && (leb (suc s.head.made) (length s.index.starts) && leb (s.head.h * words_for s.head.n) (length s.words))) ≡ true
  unfolding length_test
  l₂ = and_second (leb (s.head.h * s.head.slots) (length s.slots.entries)) _ u

  l₃ : leb s.head.made (length s.index.marks)
      && (leb (suc s.head.made) (length s.index.starts) && leb (s.head.h * words_for s.head.n) (length s.words)) ≡ true
  l₃ = and_second (leb s.head.h (length s.slots.counts)) _ l₂

  l₄ : leb (suc s.head.made) (length s.index.starts) && leb (s.head.h * words_for s.head.n) (length s.words) ≡ true
  l₄ = and_second (leb s.head.made (length s.index.marks)) _ l₃

  pub limits : Limits s
  unfolding length_test
  limits =
      let d = limited s.head t in
      record {
        height = d.height;
        width = d.width;
        tail = d.tail;
        slots = d.slots;
        entries = leb-true (s.head.h * s.head.slots) (length s.slots.entries) (and_first _ _ u);
        counts = leb-true s.head.h (length s.slots.counts) (and_first _ _ l₂);
        marks = leb-true s.head.made (length s.index.marks) (and_first _ _ l₃);
        starts = leb-true (suc s.head.made) (length s.index.starts) (and_first _ _ l₄);
        words = leb-true (s.head.h * words_for s.head.n) (length s.words) (and_second (leb (suc s.head.made) (length s.index.starts)) _ l₄);
      }

  pub has-rows : maps_test s ≡ true → HasRows s
  unfolding maps_test
  has-rows m = record {
    limits = limits;
    mapped = (inverse-sound s.head.made s.columns.homes s.columns.logicals (and_second (inverse_test s.head.h s.rows.homes s.rows.logicals) _ m)).g-long;
  }

-- where the rows are right, the index can be tested
module _ (s : Store) (v : HasIndex s) where
  -- home row y
  module _ (y : ℕ) (h : y < s.head.h) where
    row_fits : get_or s.slots.counts y 0 ≤ s.head.slots
    unfolding row_at
    row_fits = leb-true (get_or s.slots.counts y 0) s.head.slots (and_first _ _ (all-at (row_at s) s.head.h v.right y h))

    row-passes : row_test (take s.head.made s.columns.logicals) (edge s) 0 (row s y) ≡ true
    unfolding row_at
    row-passes = and_first _ _ (and_second (leb (get_or s.slots.counts y 0) s.head.slots) _ (all-at (row_at s) s.head.h v.right y h))

    row-right : RowOk (row s y) s.head.made
    row-right = record {
      rises = (test-sound (row s y) (take s.head.made s.columns.logicals) (edge s) row-passes).0.rises;
      inside = λ z e.
          omega (arith, ((test-sound (row s y) (take s.head.made s.columns.logicals) (edge s) row-passes).1 z e).0, length-take-le s.head.made s.columns.logicals v.rows.mapped);
    }

  pub can-check : CanCheck s.slots.entries s.slots.counts s.head.h s.head.slots s.head.made s.index.starts s.columns.logicals s.index.marks
  can-check =
      let l = v.rows.limits in
      record {
        rows = record { low-h = omega (arith, l.height); low-k = l.slots; room = l.entries; long = l.counts; fit = row_fits; row = row-right };
        wide = l.starts;
        homes = v.rows.mapped;
        marked = l.marks;
      }
