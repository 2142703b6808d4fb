-- FREEZE's walk over the listed rows: each that still has the column moves its one to the first tail column. Assumes nothing.
use mathlib.Core.Path.{◌≡◌, refl, sym, ap, ◌∙◌}
use mathlib.Core.Bool.{true, false, not, ◌&&◌, ◌||◌}
use mathlib.Core.Logic.{inr}
use mathlib.Core.List.{List, [], ◌∷◌}
use Prim.Native.Nat.{ℕ, suc, ◌≤◌, ◌<◌}
use native.Mathlib.Omega.{arith}
use lib.Dec.{eqb}
use lib.ListN.{length}
use borrow.Author.Tests.{eqb-true, ne_eqb}
use Rattle.laws.specs.Plain.{pick}
use Rattle.laws.specs.Rows.{member, From, take_out}
use Rattle.laws.specs.Words.{words_for}
use Rattle.laws.proofs.Bools.{by-test, not-both, and_second}
use Rattle.laws.proofs.Members.{take-member, take-from, take-length, none_below, member-head, member-later}
use Rattle.laws.proofs.Parts.{row-end}
use Rattle.tail.specs.Tail.{tail_bit, tail_put}
use Rattle.tail.proofs.Tails.{tail-put, tail-put-length, tail-put-rest, pad-put}
use Rattle.model.specs.Store.{Store, row}
use Rattle.model.specs.Change.{with_row, with_words, freeze_row, freeze_rows}
use Rattle.model.proofs.Same.{pick-off}
use Rattle.model.proofs.Rows.{Frame, row-length, row_at, with_row-frame, with_words-frame, frame-words}
use Rattle.model.proofs.SameRoom.{SameRoom, same-room, room-then, with_row-room, with_words-room}

-- what has no z loses none
pub take_none : (z : ℕ) (l : List ℕ) → member z l ≡ false → take_out z l ≡ l
unfolding member take_out
take_none z [] e = refl
take_none z (x ∷ l) e = by-test (eqb z x)
    (λ t. not-both {b = true} refl (sym (rw t) ∙ e))
    (λ n. rw n (ap (λ k. x ∷ k) (take_none z l (rw n at e))))

-- u is s after the rows of the list ys gave up z: all else stands
pub record Frozen (e z : ℕ) (ys : List ℕ) (s u : Store) : Type 0 where
  pub head : u.head ≡ s.head
  pub rows : u.rows ≡ s.rows
  pub columns : u.columns ≡ s.columns
  pub index : u.index ≡ s.index
  pub frame : Frame u e
  pub room : SameRoom s u
  pub lists : (q : ℕ) → q < s.head.h → row u q ≡ pick (member q ys) (take_out z (row s q)) (row s q)
  pub new : (q : ℕ) → q < s.head.h → tail_bit u.words s.head.n q 0 ≡ (member q ys && member z (row s q)) || tail_bit s.words s.head.n q 0
  pub old : (q d : ℕ) → suc d < s.head.n → tail_bit u.words s.head.n q (suc d) ≡ tail_bit s.words s.head.n q (suc d)

module _ (e z y : ℕ) (s : Store) (v : Frame s e) (hy : y < s.head.h) (some : 0 < s.head.n) where
  less : List ℕ
  less = take_out z (row s y)

  short : length (take_out z (row s y)) ≤ s.head.slots
  short = omega (arith, take-length z (row s y), row-length s e v y hy, v.room y hy)

  in-less : (x : ℕ) → member x (take_out z (row s y)) ≡ true → member x (row s y) ≡ true
  in-less x m = and_second (not (eqb x z)) (member x (row s y)) (sym (take-member z x (row s y) 0 (v.rising y hy)) ∙ m)

  t : Store
  t = with_row s y (take_out z (row s y))

  t-frame : Frame (with_row s y (take_out z (row s y))) e
  t-frame = with_row-frame s e v y hy (take_out z (row s y)) short (take-from z (row s y) 0 (v.rising y hy)) (λ x m. v.home y x hy (in-less x m)) (λ x m. v.sparse y x hy (in-less x m))

  moved : Store
  moved = with_words (with_row s y (take_out z (row s y))) (tail_put s.words s.head.n y 0 true)

  moved-frame : Frame moved e
  unfolding moved
  moved-frame = with_words-frame (with_row s y (take_out z (row s y))) e t-frame (tail_put s.words s.head.n y 0 true)
      (tail-put-length s.words s.head.n y 0 true (frame-words s e v y hy) some)
      (λ q hq. pad-put s.words s.head.n y 0 true (frame-words s e v y hy) some q ∙ v.tail.padding q hq)
      (λ i hi. tail-put-rest s.words s.head.n y 0 true (frame-words s e v y hy) some i (inr (omega (arith, row-end y s.head.h (words_for s.head.n) hy))) ∙ v.unused.words i hi)

  moved-room : SameRoom s moved
  unfolding moved
  moved-room = room-then s (with_row s y (take_out z (row s y))) (with_words (with_row s y (take_out z (row s y))) (tail_put s.words s.head.n y 0 true)) (with_row-room s e v y hy (take_out z (row s y)) short)
      (with_words-room (with_row s y (take_out z (row s y))) (tail_put s.words s.head.n y 0 true) (tail-put-length s.words s.head.n y 0 true (frame-words s e v y hy) some))

  -- one row
  pub freeze-one : Frozen e z (y ∷ []) s (freeze_row s z y)
  unfolding member moved
  freeze-one = by-test (member z (row s y))
      (λ m. rw m (record {
        head = refl;
        rows = refl;
        columns = refl;
        index = refl;
        frame = moved-frame;
        room = moved-room;
        lists = λ q hq. row_at s e v y hy (take_out z (row s y)) short q hq ∙ by-test (eqb q y) (λ i. rw (i, eqb-true q y i)) (λ n. rw n);
        new = λ q hq. tail-put s.words s.head.n y 0 true (frame-words s e v y hy) some q 0 some ∙ by-test (eqb q y) (λ i. rw (i, eqb-true q y i, m)) (λ n. rw n);
        old = λ q d hd. tail-put s.words s.head.n y 0 true (frame-words s e v y hy) some q (suc d) hd ∙ rw (ne_eqb (suc d) 0 (λ i. omega arith)) (pick-off (eqb q y) true (tail_bit s.words s.head.n q (suc d)));
      }))
      (λ m. rw m (record {
        head = refl;
        rows = refl;
        columns = refl;
        index = refl;
        frame = v;
        room = same-room s;
        lists = λ q hq. by-test (eqb q y) (λ i. rw (i, eqb-true q y i) (sym (take_none z (row s y) m))) (λ n. rw n);
        new = λ q hq. by-test (eqb q y) (λ i. rw (i, eqb-true q y i, m)) (λ n. rw n);
        old = λ q d hd. refl;
      }))

-- a list of rows, rising
pub freeze-rows : (e z : ℕ) (ys : List ℕ) (b : ℕ) → From b ys → (s : Store) → Frame s e → 0 < s.head.n → ((q : ℕ) → member q ys ≡ true → q < s.head.h)
    → Frozen e z ys s (freeze_rows z ys s)
unfolding freeze_rows member
freeze-rows e z [] b r s v some below =
    record { head = refl; rows = refl; columns = refl; index = refl; frame = v; room = same-room s; lists = λ q hq. refl; new = λ q hq. refl; old = λ q d hd. refl }
freeze-rows e z (y ∷ ys) b r s v some below =
    both (freeze_row s z y) (freeze-one e z y s v (below y (member-head y ys)) some)
    (λ f. freeze-rows e z ys (suc y) r.1 (freeze_row s z y) f.frame (rw f.head some) (λ q m. rw f.head (below q (member-later y q ys m))))
  where
    both : (t : Store) → Frozen e z (y ∷ []) s t → (Frozen e z (y ∷ []) s t → Frozen e z ys t (freeze_rows z ys t)) → Frozen e z (y ∷ ys) s (freeze_rows z ys t)
    both t f rest =
        let g = rest f in
        record {
          head = g.head ∙ f.head;
          rows = g.rows ∙ f.rows;
          columns = g.columns ∙ f.columns;
          index = g.index ∙ f.index;
          frame = g.frame;
          room = room-then s t (freeze_rows z ys t) f.room g.room;
          lists = λ q hq. g.lists q (rw f.head hq) ∙ rw (f.lists q hq) (by-test (eqb q y)
              (λ i. rw (i, eqb-true q y i, none_below (suc y) y ys r.1 (omega arith)))
              (λ n. rw n));
          new = λ q hq. ap (λ k. tail_bit (freeze_rows z ys t).words k q 0) (sym (ap (λ d. d.n) f.head))
              ∙ g.new q (rw f.head hq)
              ∙ rw (ap (λ d. d.n) f.head, f.lists q hq, f.new q hq) (by-test (eqb q y)
              (λ i. rw (i, eqb-true q y i, none_below (suc y) y ys r.1 (omega arith)))
              (λ n. rw n));
          old = λ q d hd. ap (λ k. tail_bit (freeze_rows z ys t).words k q (suc d)) (sym (ap (λ d. d.n) f.head))
              ∙ g.old q d (rw f.head hd)
              ∙ ap (λ k. tail_bit t.words k q (suc d)) (ap (λ d. d.n) f.head)
              ∙ f.old q d hd;
        }
