-- The rows of a column's list, measured by home row: the line has their logical numbers rising, and a sum sees no order. Assumes nothing.
use mathlib.Core.Path.{◌≡◌, refl, sym, ap, ◌∙◌}
use mathlib.Core.Bool.{false, ◌&&◌}
use mathlib.Core.List.{List, [], ◌∷◌}
use Prim.Native.Nat.{ℕ, suc, ◌+◌, ◌-◌, ◌≤◌, ◌<◌}
use native.Mathlib.Omega.{arith}
use lib.Dec.{leb, ltb, eqb}
use lib.ListN.{length, get_or, take}
use lib.Seq.{take_all}
use borrow.Author.Tests.{ltb-true, ltb-false, leb-true, eq-eqb, lt-ltb, le-leb}
use Rattle.table.specs.Run.{ok}
use Rattle.laws.specs.Rows.{member, From, put_in}
use Rattle.laws.proofs.Bools.{by-test, and-true, and_first, and_second, not-both, or-first, or-second}
use Rattle.laws.proofs.Members.{put-length}
use Rattle.laws.proofs.Select.{select-from}
use Rattle.lines.specs.Line.{numbers, line_long}
use Rattle.lines.proofs.Writing.{numbers-none}
use Rattle.arraymap.specs.Show.{mapped, shown}
use Rattle.arraymap.proofs.Mapped.{shown-fewer, shown-most}
use Rattle.arraymap.proofs.Shown.{shown-none, shown-out, not_in, shown-put}
use Rattle.lengths.specs.Length.{within, Takes, CanMeasureColumn}
use Rattle.lengths.proofs.Measured.{Measured, measured-start, measured-more, measured-line, long-join}

-- ---- a new number adds its own bytes, wherever it is put
long-put : (x : ℕ) (l : List ℕ) → member x l ≡ false → length (numbers (put_in x l)) ≡ length (numbers (x ∷ [])) + length (numbers l)
unfolding member put_in
long-put x [] n = omega (arith, ap length numbers-none)
long-put x (y ∷ l) n =
    by-test (ltb x y)
    (λ t. rw t (long-join (x ∷ []) (y ∷ l)))
    (λ f. by-test (ltb y x)
    (λ t. rw (f, t) (omega (arith, long-join (y ∷ []) (put_in x l), long-join (y ∷ []) l, long-put x l (or-second (eqb x y) (member x l) n))))
    (λ g. not-both (eq-eqb x y (omega (arith, ltb-false x y f, ltb-false y x g))) (or-first (eqb x y) (member x l) n)))

measured-put : (s : ℕ) (l : List ℕ) (long x k b : ℕ) → Measured s l long [] → From b l → member x l ≡ false → Takes (x ∷ []) k → Measured s (put_in x l) (long + k) []
measured-put s l long x k b v r n t =
    let e : length (put_in x l) ≡ suc (length l) = put-length x l b r ∙ rw n in
    record { makes = omega (arith, v.makes, t.is, long-put x l n); small = omega (arith, v.small, t.small) }

-- ---- the first j rows of the list are measured
pub record ColumnSoFar (l g : List ℕ) (a b long j : ℕ) : Type 0 where
  pub not-past : j ≤ length l
  pub so_far : Measured 3 (shown g a b (take j l)) long []

pub column-start : (l g : List ℕ) (a b : ℕ) → ColumnSoFar l g a b 3 0
column-start l g a b = record { not-past = omega arith; so_far = measured-start 3 (shown g a b (take 0 l)) [] (sym (shown-none g a b l)) }

module _ (l f g : List ℕ) (h a b long j : ℕ) (can : CanMeasureColumn l f g h) (v : ColumnSoFar l g a b long j) where
  module _ (k : ℕ) (q : j < length l) where
    -- x is the row's logical number: put in where it is one of a to b-1, else passed over
    next : (x : ℕ) → x ≡ get_or g (get_or l j 0) 0 → Takes (within a b x) k → Measured 3 (shown g a b (take (j + 1) l)) (long + k) []
    unfolding shown
    next x ex t = by-test (leb a x && ltb x b)
        (λ e. rw (shown-put f g h a b l can.shows j q x ex (leb-true a x (and_first (leb a x) (ltb x b) e)) (ltb-true x b (and_second (leb a x) (ltb x b) e)))
        (measured-put 3 (shown g a b (take j l)) long x k a v.so_far (select-from (b - a) a (λ r. member r (mapped g (take j l)))) (not_in f g h a b l can.shows j q x ex) (rw e at t)))
        (λ e. rw (shown-out f g h a b l can.shows j q x ex (λ i p s o. not-both (and-true (leb a x) (ltb x b) (le-leb a x (omega arith)) (lt-ltb x b (omega arith))) e))
        (measured-more 3 (shown g a b (take j l)) long [] [] [] k v.so_far refl (rw e at t)))

    pub column-more : Takes (within a b (get_or g (get_or l j 0) 0)) k → ColumnSoFar l g a b (long + k) (j + 1)
    column-more t = record { not-past = omega arith; so_far = next (get_or g (get_or l j 0) 0) refl t }

  pub column-short : long ≤ 1376259
  column-short = omega (arith, v.so_far.small, shown-fewer g a b l j, shown-most l f g h can.shows a b, can.few)

  pub column-done : length l ≤ j → long ≡ line_long (ok (shown g a b l))
  column-done e = measured-line (shown g a b (take j l)) long [] refl v.so_far ∙ ap (λ (q : List ℕ). line_long (ok (shown g a b q))) (take_all j l e)
