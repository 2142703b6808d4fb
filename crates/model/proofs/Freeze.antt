-- FREEZE on a store: it stays well-formed, and its table is the plain table's. Assumes nothing.
use mathlib.Core.Path.{◌≡◌, refl, sym, ap, ◌∙◌, subst}
use mathlib.Core.Bool.{Bool, true, false, not, ◌&&◌}
use mathlib.Core.List.{List}
use Prim.Native.Nat.{ℕ, suc, ◌-◌, ◌*◌, ◌≤◌, ◌<◌}
use native.Mathlib.Omega.{arith}
use native.Mathlib.Nat.{mul-le-mul_right}
use lib.Dec.{ltb, eqb}
use lib.ListN.{length, get_or}
use borrow.Author.Tests.{ltb-true, ltb-false, lt-ltb, le-ltb, eqb-true, eqb-false, ne_eqb}
use Rattle.laws.specs.Rows.{member, take_out}
use Rattle.laws.specs.Words.{words_for}
use Rattle.laws.proofs.Bools.{by-test, not-both, and_first, and_second, or-false}
use Rattle.laws.proofs.Members.{take-member}
use Rattle.laws.proofs.Maps.{same_test}
use Rattle.tail.specs.Tail.{tail_bit}
use Rattle.tail.proofs.Grown.{grown-length, tail-grown, tail-grown-new, pad-grown, grown-past}
use Rattle.arraymap.specs.Index.{list_at}
use Rattle.arraymap.specs.Check.{IndexOk}
use Rattle.table.specs.declared.Column.{Column}
use Rattle.table.specs.declared.Op.TheVariants.{Freeze}
use Rattle.table.specs.Step.{after}
use Rattle.model.specs.Store.{Head, Store, edge, row, home_row, home_column, cell, table_of}
use Rattle.model.specs.WellFormed.{WellFormed, Switched}
use Rattle.model.specs.Change.{grown_tail, freeze_column}
use Rattle.model.proofs.Same.{same-table, same-inside}
use Rattle.model.proofs.Rows.{Frame, frame-ok}
use Rattle.model.proofs.FreezeRows.{Frozen, freeze-rows, take_none}
use Rattle.model.proofs.SameRoom.{SameRoom, room-then}
use Rattle.model.proofs.IndexKept.{index-narrower}

words_up : (n : ℕ) → words_for n ≤ words_for (suc n)
words_up n = omega arith

-- what FREEZE's checks leave: the last sparse column, the index on, room for the words
pub record CanFreeze (s : Store) (c : ℕ) : Type 0 where
  pub last : suc c ≡ edge s
  pub on : s.head.on ≡ true
  pub room : s.head.h * words_for (suc s.head.n) ≤ length s.words

module _ (s : Store) (v : WellFormed s) (c : ℕ) (can : CanFreeze s c) where
  z : ℕ
  z = home_column s c

  list : List ℕ
  list = list_at s.index.starts s.index.entries (home_column s c)

  ok : IndexOk (row s) s.head.h s.head.made s.index.starts s.index.entries s.columns.logicals s.index.marks (edge s)
  ok = v.index.on can.on

  c-made : c < s.head.made
  c-made = omega (arith, can.last, v.maps.wide)

  z-made : home_column s c < s.head.made
  z-made = v.maps.columns.f-below c c-made

  g : Store
  g = grown_tail s

  pub g-frame : Frame (grown_tail s) (edge s)
  g-frame =
      record {
        maps = record { rows = v.maps.rows; columns = v.maps.columns; wide = v.maps.wide };
        room = v.rows.room;
        rising = v.rows.rising;
        home = v.rows.home;
        sparse = v.rows.sparse;
        tail = record { padding = λ y hy. pad-grown s.words s.head.n s.head.h can.room y hy (v.tail.padding y hy) };
        limits =
            record {
              height = v.limits.height;
              width = v.limits.width;
              tail = omega (arith, can.last);
              slots = v.limits.slots;
              entries = v.limits.entries;
              counts = v.limits.counts;
              marks = v.limits.marks;
              starts = v.limits.starts;
              words = rw (grown-length s.words s.head.n s.head.h can.room) can.room;
            };
        unused =
            record {
              slots = v.unused.slots;
              entries = v.unused.entries;
              counts = v.unused.counts;
              row-homes = v.unused.row-homes;
              row-logicals = v.unused.row-logicals;
              column-homes = v.unused.column-homes;
              column-logicals = v.unused.column-logicals;
              words = λ i hi. grown-past s.words s.head.n s.head.h can.room i hi ∙ v.unused.words i (omega (arith, up));
            };
      }
    where
      up : s.head.h * words_for s.head.n ≤ s.head.h * words_for (suc s.head.n)
      up = mul-up s.head.h (words_for s.head.n) (words_for (suc s.head.n)) (words_up s.head.n)
        where
          mul-up : (k a b : ℕ) → a ≤ b → k * a ≤ k * b
          mul-up k a b h = omega (arith, mul-le-mul_right k h)

  u : Store
  u = freeze_column c s

  f : Frozen (edge s) (home_column s c) list (grown_tail s) (freeze_column c s)
  unfolding list
  f = freeze-rows (edge s) (home_column s c) list 0 (ok.rising (home_column s c) z-made) (grown_tail s) g-frame (omega arith) (λ q m. ok.below (home_column s c) q z-made m)

  -- ---- what is in a row, and in the new tail column
  lists : (q : ℕ) → q < s.head.h → row (freeze_column c s) q ≡ take_out (home_column s c) (row s q)
  unfolding list
  lists q hq = f.lists q hq ∙ by-test (member q list)
      (λ m. rw m)
      (λ n. rw n (sym (take_none (home_column s c) (row s q) (unlisted q hq n))))
    where
      unlisted : (q : ℕ) → q < s.head.h → member q list ≡ false → member (home_column s c) (row s q) ≡ false
      unlisted q hq n = by-test (member (home_column s c) (row s q)) (λ m. not-both (ok.all q (home_column s c) hq m) n) (λ k. k)

  in_row : (q x : ℕ) → q < s.head.h → member x (row (freeze_column c s) q) ≡ not (eqb x (home_column s c)) && member x (row s q)
  in_row q x hq = ap (member x) (lists q hq) ∙ take-member (home_column s c) x (row s q) 0 (v.rows.rising q hq)

  first : (q : ℕ) → q < s.head.h → tail_bit (freeze_column c s).words (suc s.head.n) q 0 ≡ member (home_column s c) (row s q)
  unfolding list
  first q hq = f.new q hq ∙ rw (tail-grown-new s.words s.head.n s.head.h can.room q hq (v.tail.padding q hq)) (by-test (member q list)
      (λ m. rw m (or-false (member (home_column s c) (row s q))))
      (λ n. rw n (by-test (member (home_column s c) (row s q)) (λ m. not-both (ok.all q (home_column s c) hq m) n) (λ k. sym k))))

  later : (q d : ℕ) → q < s.head.h → d < s.head.n → tail_bit (freeze_column c s).words (suc s.head.n) q (suc d) ≡ tail_bit s.words s.head.n q d
  unfolding list
  later q d hq hd = f.old q d (omega arith) ∙ tail-grown s.words s.head.n s.head.h can.room q d hq hd

  -- ---- well-formed again: no row has the column any more
  edge-less : edge (freeze_column c s) ≡ c
  unfolding list
  edge-less = ap (λ (d : Head). d.w - d.n) f.head ∙ omega (arith, can.last)

  same-columns : (freeze_column c s).columns ≡ s.columns
  unfolding list
  same-columns = f.columns

  still-sparse : (q x : ℕ) → q < s.head.h → member x (row (freeze_column c s) q) ≡ true → get_or s.columns.logicals x 0 < c
  still-sparse q x hq m =
      let b : not (eqb x (home_column s c)) && member x (row s q) ≡ true = sym (in_row q x hq) ∙ m in
      let old : member x (row s q) ≡ true = and_second (not (eqb x (home_column s c))) (member x (row s q)) b in
      let ne : eqb x (home_column s c) ≡ false = not-eq (eqb x (home_column s c)) (and_first (not (eqb x (home_column s c))) (member x (row s q)) b) in
      let xm : x < s.head.made = v.rows.home q x hq old in
      let other : get_or s.columns.logicals x 0 ≡ c → ⊥ = λ e. eqb-false x (home_column s c) ne (sym (v.maps.columns.forth x xm) ∙ ap (λ (i : ℕ). get_or s.columns.homes i 0) e) in
      omega (arith, can.last, v.rows.sparse q x hq old)
    where
      not-eq : (b : Bool) → not b ≡ true → b ≡ false
      not-eq true e = not-both {b = false} e refl
      not-eq false e = refl

  u-frame : Frame (freeze_column c s) (edge (freeze_column c s))
  unfolding list
  u-frame =
      let w = f.frame in
      record {
        maps = w.maps;
        room = w.room;
        rising = w.rising;
        home = w.home;
        sparse = λ q x hq m. rw (edge-less, ap (λ k. k.logicals) same-columns) (still-sparse q x (rw (ap (λ (d : Head). d.h) f.head) at hq) m);
        tail = w.tail;
        limits = w.limits;
        unused = w.unused;
      }

  -- the same store with its untouched parts written out
  w : Store
  w = record { head = (grown_tail s).head; slots = (freeze_column c s).slots; rows = s.rows; columns = s.columns; index = s.index; words = (freeze_column c s).words }

  is-w : freeze_column c s ≡ w
  unfolding list w
  is-w i =
      record {
        head = f.head i;
        slots = (freeze_column c s).slots;
        rows = f.rows i;
        columns = f.columns i;
        index = f.index i;
        words = (freeze_column c s).words;
      }

  w-row : (q x : ℕ) → q < s.head.h → member x (row w q) ≡ not (eqb x (home_column s c)) && member x (row s q)
  w-row q x hq = ap (λ k. member x (row k q)) (sym is-w) ∙ in_row q x hq

  w-switched : Switched w
  unfolding w
  w-switched =
      record {
        on = λ e. subst (λ (k : ℕ). IndexOk (row w) s.head.h s.head.made s.index.starts s.index.entries s.columns.logicals s.index.marks k) last
            (index-narrower (row s) (row w) s.head.h s.head.made s.index.starts s.index.entries s.columns.logicals s.index.marks s.index.marks (edge s) c ok
            (λ q x hq m. and_second (not (eqb x (home_column s c))) (member x (row s q)) (sym (w-row q x hq) ∙ m))
            (λ x hx a. record { sparse = omega (arith, a.sparse, can.last); exact = a.exact })
            (λ q x hq hx a m. w-row q x hq ∙ rw (ne_eqb x (home_column s c) (λ e. omega (arith, a.sparse, ap (λ (i : ℕ). get_or s.columns.logicals i 0) e ∙ v.maps.columns.back c c-made))) m)
            ok.mark ok.rest-marks);
        off-starts = λ e. not-both can.on e;
        off-entries = λ e. not-both can.on e;
        off-marks = λ e. not-both can.on e;
      }
    where
      last : c ≡ s.head.w - suc s.head.n
      last = omega (arith, can.last)

  pub freeze-ok : WellFormed (freeze_column c s)
  freeze-ok = frame-ok (freeze_column c s) u-frame (subst (λ (k : Store). Switched k) (sym is-w) w-switched)

  -- ---- the table
  w_cell : (q k : ℕ) → q < s.head.h → k < s.head.w → cell w q k ≡ cell s q k
  unfolding w
  w_cell q k hq hk = by-test (ltb k c)
      (λ t. let low : k < c = ltb-true k c t in
      rw (lt-ltb k (s.head.w - suc s.head.n) (omega (arith, can.last)), lt-ltb k (s.head.w - s.head.n) (omega (arith, can.last)))
      (w-row q (home_column s k) hq ∙ rw (same_test s.head.made s.columns.homes s.columns.logicals v.maps.columns k c (omega (arith, v.maps.wide)) c-made, ne_eqb k c (λ e. omega arith))))
      (λ n. by-test (eqb k c)
      (λ e. let k≡c : k ≡ c = eqb-true k c e in
      let none : c - (s.head.w - suc s.head.n) ≡ 0 = omega (arith, can.last) in
      rw (k≡c, le-ltb c (s.head.w - suc s.head.n) (omega (arith, can.last)), lt-ltb c (s.head.w - s.head.n) (omega (arith, can.last)), none) (first q hq))
      (λ ne. let k≢c : k ≡ c → ⊥ = eqb-false k c ne in
      let high : c < k = omega (arith, ltb-false k c n) in
      let more : k - (s.head.w - suc s.head.n) ≡ suc (k - (s.head.w - s.head.n)) = omega (arith, can.last) in
      rw (le-ltb k (s.head.w - suc s.head.n) (omega (arith, can.last)), le-ltb k (s.head.w - s.head.n) (omega (arith, can.last)), more)
      (later q (k - (s.head.w - s.head.n)) hq (omega (arith, can.last, v.limits.tail)))))

  pub freeze-means : (p : Column) → p.c ≡ c → table_of (freeze_column c s) ≡ after (Freeze p) (table_of s)
  unfolding w
  freeze-means p e =
      ap table_of is-w
      ∙ same-table s.head.h s.head.w (suc s.head.n) s.head.on _ _ _ _ _ _
      (same-inside s.head.h s.head.w (λ r k. cell w (home_row s r) k) (λ r k. cell s (home_row s r) k) (λ r k hr hk. w_cell (home_row s r) k (v.maps.rows.f-below r hr) hk))
      (λ k. refl) (λ k. refl)

  pub freeze-room : SameRoom s (freeze_column c s)
  unfolding list
  freeze-room = room-then s (grown_tail s) (freeze_column c s) grown-room f.room
    where
      grown-room : SameRoom s (grown_tail s)
      grown-room =
          record {
            slots = refl;
            entries = refl;
            counts = refl;
            row-homes = refl;
            row-logicals = refl;
            column-homes = refl;
            column-logicals = refl;
            marks = refl;
            starts = refl;
            index = refl;
            words = grown-length s.words s.head.n s.head.h can.room;
          }
