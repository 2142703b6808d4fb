-- How long the line of an operation is: of its number where it is refused, else of its answer. Assumes nothing.
use mathlib.Core.Path.{◌≡◌, refl, sym, ap, ◌∙◌}
use mathlib.Core.Bool.{true, false, not, ◌&&◌, true≢false}
use mathlib.Core.List.{List, []}
use Prim.Native.Nat.{ℕ, ◌+◌, ◌/◌, ◌≤◌, ◌<◌}
use native.Mathlib.Omega.{arith}
use lib.Dec.{leb, eqb}
use lib.ListN.{length}
use borrow.Author.Tests.{leb-false}
use Rattle.laws.specs.Parts.{over, stretch}
use Rattle.laws.specs.Words.{words_for}
use Rattle.laws.proofs.Bools.{quiet-first}
use Rattle.laws.proofs.Parts.{over-read, stretch-length}
use Rattle.sparse_vec.specs.Row.{walked}
use Rattle.tail.specs.Tail.{tail_ones}
use Rattle.arraymap.specs.Index.{list_at}
use Rattle.arraymap.specs.Show.{shown, CanList}
use Rattle.lengths.specs.Length.{CanMeasureRow, CanMeasureTail, CanMeasureColumn}
use Rattle.table.specs.declared.Op.{Op}
use Rattle.table.specs.declared.Op.TheVariants.{Make, Set, SwapR, SwapC, Add, On, Off, Freeze, Resize, Get, Count, Words, TailOnes, Iter, ColOnes, Size}
use Rattle.table.specs.declared.RowRange.{RowRange}
use Rattle.table.specs.declared.RowTail.{RowTail}
use Rattle.table.specs.declared.ColumnRange.{ColumnRange}
use Rattle.table.specs.Table.{Table}
use Rattle.table.specs.Step.{answer}
use Rattle.table.specs.Room.{kind, listed}
use Rattle.table.specs.Run.{Reply, ok, nay, reply_of}
use Rattle.model.specs.Store.{Store, Full, edge, row, home_row, home_column, table_of}
use Rattle.model.specs.WellFormed.{WellFormed}
use Rattle.model.specs.Step.{Result, inner, result_of}
use Rattle.model.proofs.Rows.{frame-of, row-length}
use Rattle.std.proofs.lemmas.List.{map-id}
use Rattle.std.specs.Prelude.{map, Result as Either, Ok, Err, IsErrAnd}
use Rattle.store_head.specs.declared.refusal.Refusal.{Refusal}
use Rattle.store_head.specs.Query.{InSlots}
use Rattle.store_head.proofs.QueryPlaces.{in-slots, row-mapped, tail-in, column-low, column-in}
use Rattle.store_head.specs.Lent.{full_of}
use Rattle.store_head.specs.Refused.{refusal_of, number_of}
use Rattle.store_head.proofs.Refuses.{past, accepted, refused-by}
use Rattle.listings.proofs.QueryLists.{iter-low, iter-told, tail-low, tail-first, tail-told}
use Rattle.listings.proofs.QueryColumn.{colones-wide, colones-gets, colones-shows, colones-told}
use Rattle.lines.specs.Line.{line_long}
use Rattle.lines.proofs.Writing.{long-none}
use Rattle.operations.specs.Applied.{asks}
use Rattle.operations.proofs.Arms.{aside}
use Rattle.turns.specs.Said.{long_by}

-- the same operation by another name
pub as_line : (o p : Op) → o ≡ p → (f : Full) (k : ℕ) → k ≡ line_long (reply_of (inner p f)) → k ≡ line_long (reply_of (inner o f))
as_line o p e f k q = q ∙ ap (λ (h : Op). line_long (reply_of (inner h f))) (sym e)

pub as-free : (o p : Op) → o ≡ p → (f : Full) → 0 ≡ refusal_of (inner o f) → 0 ≡ refusal_of (inner p f)
as-free o p e f q = q ∙ ap (λ (h : Op). refusal_of (inner h f)) e

-- refused: the line of the number
pub refused-line : (o : Op) (f : Full) (r : Either ℕ Refusal) (k : Refusal) → IsErrAnd r (λ j. j ≡ k) → number_of k ≡ refusal_of (inner o f) → long_by r ≡ line_long (reply_of (inner o f))
refused-line o f (Ok n) k h e = absurd h
refused-line o f (Err j) k h e = ap (λ (i : Refusal). line_long (nay (number_of i))) h ∙ ap (λ (r : Result). line_long r.reply) (refused-by o f k e)

-- not refused: the line of the answer
pub answer-line : (o : Op) (f : Full) → 0 ≡ refusal_of (inner o f) → (l : List ℕ) → l ≡ answer o (table_of f.store) → (k : ℕ) → k ≡ line_long (ok l) → k ≡ line_long (reply_of (inner o f))
answer-line o f free l e k q = q ∙ ap (λ m. line_long (ok m)) e ∙ ap (λ (r : Result). line_long r.reply) (sym (accepted o f free))

-- ---- what changes the store answers nothing
nothing-told : (o : Op) (t : Table) → asks o ≡ false → [] ≡ answer o t
nothing-told (Make p) t h = refl
nothing-told (Set p) t h = refl
nothing-told (SwapR p) t h = refl
nothing-told (SwapC p) t h = refl
nothing-told (Add p) t h = refl
nothing-told On t h = refl
nothing-told Off t h = refl
nothing-told (Freeze p) t h = refl
nothing-told (Resize p) t h = refl
nothing-told (Get p) t h = absurd (true≢false h)
nothing-told (Count p) t h = absurd (true≢false h)
nothing-told (Words p) t h = absurd (true≢false h)
nothing-told (TailOnes p) t h = absurd (true≢false h)
nothing-told (Iter p) t h = absurd (true≢false h)
nothing-told (ColOnes p) t h = absurd (true≢false h)
nothing-told Size t h = absurd (true≢false h)

pub done-line : (o : Op) (f : Full) → 0 ≡ refusal_of (inner o f) → asks o ≡ false → 3 ≡ line_long (reply_of (inner o f))
done-line o f free h = answer-line o f free [] (nothing-told o (table_of f.store) h) 3 (sym long-none)

-- ---- what answers no list is told the same whatever is in the answer buffer, of a store or of the view of it
module _ (o p : Op) (e : o ≡ p) (n : listed (kind p) ≡ false) (v s : Store) (same : v ≡ s) (a : List ℕ) where
  pub asked-line : (r : Reply) → r ≡ reply_of (inner p (full_of v [])) → (k : ℕ) → k ≡ line_long r → k ≡ line_long (reply_of (inner o (full_of s a)))
  asked-line r q k j =
      as_line o p e (full_of s a) k (j ∙ ap line_long (q ∙ ap (λ (x : Store). reply_of (inner p (full_of x []))) same) ∙ ap (λ (x : Result). line_long x.reply) (aside p n s a))

  pub asked-refused : (r : Either ℕ Refusal) (k : Refusal) → IsErrAnd r (λ j. j ≡ k) → nay (number_of k) ≡ reply_of (inner p (full_of v [])) → long_by r ≡ line_long (reply_of (inner o (full_of s a)))
  asked-refused (Ok m) k h q = absurd h
  asked-refused (Err j) k h q = asked-line (nay (number_of k)) q (line_long (nay (number_of j))) (ap (λ (i : Refusal). line_long (nay (number_of i))) h)

-- ---- a store is asked by a view of it
module _ (o p : Op) (e : o ≡ p) (v s : Store) (same : v ≡ s) (a : List ℕ) where
  pub seen-free : 0 ≡ refusal_of (inner o (full_of s a)) → 0 ≡ refusal_of (inner p (full_of v a))
  seen-free q = rw same (as-free o p e (full_of s a) q)

  pub seen-line : (k : ℕ) → k ≡ line_long (reply_of (inner p (full_of v a))) → k ≡ line_long (reply_of (inner o (full_of s a)))
  seen-line k q = as_line o p e (full_of s a) k (q ∙ ap (λ (x : Store). line_long (reply_of (inner p (full_of x a)))) same)

-- ---- WORDS
module _ (p : RowTail) (f : Full) (free : 0 ≡ refusal_of (inner (Words p) f)) where
  pub words-low : p.r < f.store.head.h
  words-low = leb-false f.store.head.h p.r (quiet-first (leb f.store.head.h p.r) (not (not (eqb p.a (edge f.store))) && true) (past (Words p) f free).0)

pub words-few : (s : Store) → WellFormed s → (at : ℕ) (l : List ℕ) → l ≡ stretch s.words at (words_for s.head.n) → length l ≤ 65536
words-few s v at l e =
    let long : length l ≡ (s.head.n + 63) / 64 = ap length e ∙ stretch-length s.words at (words_for s.head.n) in
    omega (arith, long, v.limits.tail, v.maps.wide, v.limits.width)

-- ---- a list, read from the store
list-line : (f : Full) (o : Op) (l : List ℕ)
    → record { reply = ok (stretch (over l f.answers) 0 (length l)); after = full_of f.store (over l f.answers) } ≡ result_of f (inner o f) → (k : ℕ) → k ≡ line_long (ok l) → k ≡ line_long (reply_of (inner o f))
list-line f o l e k q = q ∙ ap (λ m. line_long (ok m)) (sym (over-read l f.answers)) ∙ ap (λ (x : Result). line_long x.reply) e

pub iter-line : (p : RowRange) (f : Full) (v : WellFormed f.store) (free : 0 ≡ refusal_of (inner (Iter p) f)) (y : ℕ) (l : List ℕ) → y ≡ home_row f.store p.r → l ≡ row f.store y
    → (k : ℕ) → k ≡ line_long (ok (walked f.store.columns.logicals p.a p.b l)) → k ≡ line_long (reply_of (inner (Iter p) f))
iter-line p f v free y l ey el k q =
    list-line f (Iter p) (walked f.store.columns.logicals p.a p.b l)
    (iter-told p f v free y l ey el _ _ (refl, refl)) k q

pub tail-line : (p : RowTail) (f : Full) (v : WellFormed f.store) (free : 0 ≡ refusal_of (inner (TailOnes p) f)) (y i : ℕ) → y ≡ home_row f.store p.r → i ≡ y
    → (k : ℕ) → k ≡ line_long (ok (tail_ones f.store.words f.store.head.n i p.a)) → k ≡ line_long (reply_of (inner (TailOnes p) f))
tail-line p f v free y i ey ei k q =
    list-line f (TailOnes p) (tail_ones f.store.words f.store.head.n i (edge f.store))
    (tail-told p f v free y i ey ei _ _ (refl, refl)) k (q ∙ ap (λ (b : ℕ). line_long (ok (tail_ones f.store.words f.store.head.n i b))) (tail-first p f v free))

pub column-line : (p : ColumnRange) (f : Full) (v : WellFormed f.store) (free : 0 ≡ refusal_of (inner (ColOnes p) f)) (q j z : ℕ) (eq : q ≡ p.c) (ej : j ≡ home_column f.store q) (ez : z ≡ j) (l : List ℕ)
    → l ≡ list_at f.store.index.starts f.store.index.entries z
    → (k : ℕ) → k ≡ line_long (ok (shown f.store.rows.logicals p.a p.b l)) → k ≡ line_long (reply_of (inner (ColOnes p) f))
column-line p f v free q j z eq ej ez l el k h =
    list-line f (ColOnes p) (shown f.store.rows.logicals p.a p.b l)
    (colones-told p f v free q j z eq ej ez l el _ _ (refl, refl)) k h

-- ---- a well-formed store gives what measuring asks
module _ (p : RowRange) (f : Full) (v : WellFormed f.store) (free : 0 ≡ refusal_of (inner (Iter p) f)) where
  pub iter-home : p.r < length f.store.rows.homes
  iter-home = omega (arith, iter-low p f v free, v.maps.rows.f-long)

  module _ (y : ℕ) (ey : y ≡ home_row f.store p.r) where
    pub iter-slots : InSlots f.store.slots.entries f.store.slots.counts f.store.head.slots y
    iter-slots = in-slots f.store v p.r y (iter-low p f v free) ey

    pub row-measured : (l : List ℕ) → l ≡ row f.store y → CanMeasureRow l f.store.columns.logicals
    row-measured l el =
        let low : y < f.store.head.h = omega (arith, ey, v.maps.rows.f-below p.r (iter-low p f v free)) in
        record {
          mapped = row-mapped f.store v p.r y (iter-low p f v free) ey l el;
          few = omega (arith, ap length el, row-length f.store (edge f.store) (frame-of f.store v) y low, v.rows.room y low, v.limits.slots);
        }

module _ (p : RowTail) (f : Full) (v : WellFormed f.store) (free : 0 ≡ refusal_of (inner (TailOnes p) f)) where
  pub tail-home : p.r < length f.store.rows.homes
  tail-home = omega (arith, tail-low p f v free, v.maps.rows.f-long)

  pub tail-measured : (y i : ℕ) → y ≡ home_row f.store p.r → i ≡ y → CanMeasureTail f.store.words f.store.head.n i p.a
  tail-measured y i ey ei =
      let t = tail-in f.store v p.r y (tail-low p f v free) ey i ei in
      record {
        small = t.small;
        wide = omega (arith, t.small, tail-first p f v free, v.limits.tail, v.maps.wide, v.limits.width);
        row = t.row;
      }

module _ (p : ColumnRange) (f : Full) (v : WellFormed f.store) (free : 0 ≡ refusal_of (inner (ColOnes p) f)) where
  pub column-small : p.c < 65536
  column-small = column-low f.store v p.c (colones-wide p f v free)

  pub column-home : (q : ℕ) → q ≡ p.c → q < length f.store.columns.homes
  column-home q eq = column-in f.store v p.c q (colones-wide p f v free) eq

  module _ (q j z : ℕ) (eq : q ≡ p.c) (ej : j ≡ home_column f.store q) (ez : z ≡ j) where
    pub column-list : CanList f.store.index.starts f.store.index.entries z
    column-list = colones-gets p f v free q j z eq ej ez

    pub column-measured : (l : List ℕ) → l ≡ list_at f.store.index.starts f.store.index.entries z → (h : ℕ) → h ≡ f.store.head.h
        → CanMeasureColumn l f.store.rows.homes f.store.rows.logicals h
    column-measured l el h eh =
        record {
          shows = rw eh (colones-shows p f v free q j z eq ej ez l el).can;
          few = omega (arith, eh, v.limits.height);
        }

-- ---- a list is shown as it is
pub same-list : (l : List ℕ) (k : ℕ) → k ≡ line_long (ok (map (λ n. n) l)) → k ≡ line_long (ok l)
same-list l k e = e ∙ ap (λ m. line_long (ok m)) (map-id l)
