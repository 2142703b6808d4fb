-- FREEZE on a well-formed store: its refusals, and the walk over the listed rows, turn by turn. Assumes nothing.
use mathlib.Core.Path.{◌≡◌, refl, sym, ap, ◌∙◌, subst}
use mathlib.Core.Bool.{Bool, true, false, not}
use mathlib.Core.List.{List, [], ◌∷◌, ◌++◌}
use Prim.Native.Nat.{ℕ, suc, ◌+◌, ◌*◌, ◌≤◌, ◌<◌}
use native.Mathlib.Omega.{arith}
use native.Mathlib.Nat.{mul-le-mul}
use native.Mathlib.Numerals.{add-one}
use lib.Dec.{leb, ltb, eqb}
use lib.ListN.{length, get_or, set, take}
use lib.Seq.{take-suc, take_all, get_or-take, length-take-le}
use borrow.Author.Tests.{le-leb, lt-leb, le-ltb, lt-ltb, eq-eqb, ne_eqb}
use Rattle.laws.specs.Plain.{pick}
use Rattle.laws.specs.Rows.{member, take_out}
use Rattle.laws.specs.Parts.{part, row_of}
use Rattle.laws.proofs.Parts.{part_length}
use Rattle.laws.specs.Words.{words_for}
use Rattle.laws.proofs.Members.{from-take, member-at, member-place, take-length}
use Rattle.sparse_vec.specs.Row.{HasRow, put_row}
use Rattle.tail.specs.Tail.{CanGrow, InTail, grown, tail_put}
use Rattle.tail.proofs.Grown.{grown-length}
use Rattle.arraymap.specs.Index.{list_at}
use Rattle.arraymap.specs.Show.{CanList}
use Rattle.arraymap.specs.Check.{IndexOk}
use Rattle.arraymap.proofs.Means.{can-list}
use Rattle.table.specs.declared.Column.{Column}
use Rattle.table.specs.declared.Op.TheVariants.{Freeze}
use Rattle.table.specs.Refusals.{refused, done}
use Rattle.table.specs.Run.{ok}
use Rattle.model.specs.Store.{Head, Store, Full, edge, row, home_column}
use Rattle.model.specs.WellFormed.{WellFormed}
use Rattle.model.specs.Change.{with_row, with_words, grown_tail, freeze_row, freeze_rows, freeze_column}
use Rattle.model.specs.Step.{Result, inner, result_of}
use Rattle.model.proofs.Rows.{Frame, row_fits, frame-words}
use Rattle.model.proofs.FreezeRows.{Frozen, freeze-rows}
use Rattle.model.proofs.Freeze.{CanFreeze, g-frame}
use Rattle.model.proofs.Passed.{can-freeze}
use Rattle.store_head.specs.Lent.{full_of}
use Rattle.store_head.specs.Refused.{refusal_of}
use Rattle.reshape.specs.Frozen.{CanTake}
use Rattle.store_head.proofs.Refuses.{past, accepted}

-- four refusals, one after the other
numbers : (a b c d : Bool) (u : Full) (l : List ℕ)
    → refusal_of (pick a (refused 5) (pick b (refused 6) (pick c (refused 9) (pick d (refused 13) (done u l))))) ≡ pick a 5 (pick b 6 (pick c 9 (pick d 13 0)))
numbers true b c d u l = refl
numbers false true c d u l = refl
numbers false false true d u l = refl
numbers false false false true u l = refl
numbers false false false false u l = refl

module _ (s : Store) (v : WellFormed s) (p : Column) where
  -- the refusal as a choice by four tests
  chosen : refusal_of (inner (Freeze p) (full_of s []))
      ≡ pick (leb s.head.w p.c) 5 (pick (not (eqb (suc p.c) (edge s))) 6 (pick (not s.head.on) 9 (pick (ltb (length s.words) (s.head.h * words_for (suc s.head.n))) 13 0)))
  unfolding inner
  chosen = numbers (leb s.head.w p.c) (not (eqb (suc p.c) (edge s))) (not s.head.on) (ltb (length s.words) (s.head.h * words_for (suc s.head.n))) _ _

  pub past-width : s.head.w ≤ p.c → 5 ≡ refusal_of (inner (Freeze p) (full_of s []))
  past-width h = sym (chosen ∙ rw (le-leb s.head.w p.c h))

  module _ (hc : p.c < s.head.w) where
    pub not_last : (p.c + 1 ≡ edge s → ⊥) → 6 ≡ refusal_of (inner (Freeze p) (full_of s []))
    not_last n = sym (chosen ∙ rw (lt-leb s.head.w p.c hc, ne_eqb (suc p.c) (edge s) (λ e. n (omega arith))))

    module _ (last : p.c + 1 ≡ edge s) where
      is_last : eqb (suc p.c) (edge s) ≡ true
      is_last = eq-eqb (suc p.c) (edge s) (omega (arith, last))

      pub index-off : not s.head.on ≡ true → 9 ≡ refusal_of (inner (Freeze p) (full_of s []))
      index-off o = sym (chosen ∙ rw (lt-leb s.head.w p.c hc, is_last, o))

      module _ (on : not s.head.on ≡ false) (wanted : ℕ) (wanted-is : wanted ≡ s.head.h * words_for (suc s.head.n)) where
        pub few_words : length s.words < wanted → 13 ≡ refusal_of (inner (Freeze p) (full_of s []))
        few_words h = sym (chosen ∙ rw (lt-leb s.head.w p.c hc, is_last, on, lt-ltb (length s.words) (s.head.h * words_for (suc s.head.n)) (rw wanted-is at h)))

        pub free : wanted ≤ length s.words → 0 ≡ refusal_of (inner (Freeze p) (full_of s []))
        free h = sym (chosen ∙ rw (lt-leb s.head.w p.c hc, is_last, on, le-ltb (length s.words) (s.head.h * words_for (suc s.head.n)) (rw wanted-is at h)))

-- the words that are wanted
module _ (h n a b : ℕ) (a-is : a ≡ h) (b-is : b ≡ words_for (n + 1)) where
  pub wanted-is : a * b ≡ h * words_for (suc n)
  wanted-is = rw (a-is, b-is, add-one n)

  pub wanted-low : (h ≤ 65535) × (n ≤ 65535) → a * b ≤ 65535 * 65535
  wanted-low low = mul-le-mul {n₂ = 65535} {m₂ = 65535} (omega (arith, low.0)) (omega (arith, low.1))

-- ---- one row

-- the row that is read has `n` numbers
module _ (slots counts : List ℕ) (k y z : ℕ) (can : CanTake slots counts k y) (n : ℕ) (n-is : n ≡ get_or counts y 0) where
  pub take_row : HasRow slots (y * k) n k
  take_row = rw n-is can.row

  row_is : part slots (y * k) n ≡ row_of slots counts k y
  unfolding row_of
  row_is = rw n-is

  module _ (r : Bool) (r-is : r ≡ member z (part slots (y * k) n)) where
    told : r ≡ member z (row_of slots counts k y)
    told = r-is ∙ ap (member z) row_is

    pub lacks : r ≡ false
        → (false ≡ member z (row_of slots counts k y))
        × ((slots ≡ pick (member z (row_of slots counts k y)) (put_row slots (y * k) k (take_out z (row_of slots counts k y))) slots)
        × (counts ≡ pick (member z (row_of slots counts k y)) (set counts y (length (take_out z (row_of slots counts k y)))) counts))
    lacks e = (sym e ∙ told, (rw (sym told ∙ e), rw (sym told ∙ e)))

    module _ (e : r ≡ true) (len : ℕ) (S : List ℕ)
        (left : (len ≡ length (take_out z (part slots (y * k) n))) × (S ≡ put_row slots (y * k) k (take_out z (part slots (y * k) n)))) where
      pub len-low : len ≤ 65535
      len-low = omega (arith, left.0, take-length z (part slots (y * k) n), part_length slots (y * k) n (omega (arith, take_row.fits, take_row.room)), take_row.room, can.small)

      pub taken : (true ≡ member z (row_of slots counts k y))
          × ((S ≡ pick (member z (row_of slots counts k y)) (put_row slots (y * k) k (take_out z (row_of slots counts k y))) slots)
          × (set counts y len ≡ pick (member z (row_of slots counts k y)) (set counts y (length (take_out z (row_of slots counts k y)))) counts))
      taken = (sym e ∙ told, (left.1 ∙ rw (row_is, sym told ∙ e), rw (left.0, row_is, sym told ∙ e)))

module _ (words : List ℕ) (n y : ℕ) (had : Bool) (can : InTail words n y 0) where
  pub not-put : had ≡ false → words ≡ pick had (tail_put words n y 0 true) words
  not-put e = rw e

  pub put : had ≡ true → (ws : List ℕ) → ws ≡ tail_put words n y 0 true → ws ≡ pick had (tail_put words n y 0 true) words
  put e ws w = w ∙ rw e

-- ---- the walk

-- a store with one more tail column, over the words as they are
abbrev wider : Store → Store
wider s = record { head = (grown_tail s).head; slots = s.slots; rows = s.rows; columns = s.columns; index = s.index; words = s.words }

-- three lists are those of u
pub record Holds (u : Store) (slots counts words : List ℕ) : Type 0 where
  pub slots-are : slots ≡ u.slots.entries
  pub counts-are : counts ≡ u.slots.counts
  pub words_are : words ≡ u.words

-- the lists after i of the listed rows
pub record Turn (s : Store) (z : ℕ) (list slots counts words : List ℕ) (i : ℕ) : Type 0 where
  pub low : i ≤ length list
  pub holds : Holds (freeze_rows z (take i list) (wider s)) slots counts words

pub turn-start : (s : Store) (z : ℕ) (list : List ℕ) → Turn s z list s.slots.entries s.slots.counts s.words 0
unfolding freeze_rows
turn-start s z list = record { low = omega arith; holds = record { slots-are = refl; counts-are = refl; words_are = refl } }

-- a row more
freeze-more : (z y : ℕ) (ys : List ℕ) (s : Store) → freeze_rows z (ys ++ (y ∷ [])) s ≡ freeze_row (freeze_rows z ys s) z y
unfolding freeze_rows
freeze-more z y [] s = refl
freeze-more z y (q ∷ ys) s = freeze-more z y ys (freeze_row s z q)

-- u with z moved from row y to the tail
abbrev moved : Store → ℕ → ℕ → Store
moved u z y = with_words (with_row u y (take_out z (row u y))) (tail_put u.words u.head.n y 0 true)

entries-of : (b : Bool) (t s : Store) → pick b t.slots.entries s.slots.entries ≡ (pick b t s).slots.entries
entries-of true t s = refl
entries-of false t s = refl

counts_of : (b : Bool) (t s : Store) → pick b t.slots.counts s.slots.counts ≡ (pick b t s).slots.counts
counts_of true t s = refl
counts_of false t s = refl

words_of : (b : Bool) (t s : Store) → pick b t.words s.words ≡ (pick b t s).words
words_of true t s = refl
words_of false t s = refl

module _ (u : Store) (k n y z : ℕ) (k-is : k ≡ u.head.slots) (n-is : n ≡ u.head.n) (slots counts words : List ℕ) (h : Holds u slots counts words)
    (S C W : List ℕ) (had : Bool)
    (out : (had ≡ member z (row_of slots counts k y))
    × ((S ≡ pick (member z (row_of slots counts k y)) (put_row slots (y * k) k (take_out z (row_of slots counts k y))) slots)
    × (C ≡ pick (member z (row_of slots counts k y)) (set counts y (length (take_out z (row_of slots counts k y)))) counts)))
    (in_words : W ≡ pick had (tail_put words n y 0 true) words) where
  same_row : row_of slots counts k y ≡ row u y
  same_row = rw (h.slots-are, h.counts-are, k-is)

  one-row : Holds (freeze_row u z y) S C W
  one-row =
      record {
        slots-are = out.1.0 ∙ rw (same_row, h.slots-are, k-is) (entries-of (member z (row u y)) (moved u z y) u);
        counts-are = out.1.1 ∙ rw (same_row, h.counts-are) (counts_of (member z (row u y)) (moved u z y) u);
        words_are = in_words ∙ rw (out.0, same_row, h.words_are, n-is) (words_of (member z (row u y)) (moved u z y) u);
      }

-- ---- accepted

-- a listed row of a frame
pub frame-take : (u : Store) (e : ℕ) → Frame u e → (y : ℕ) → y < u.head.h → CanTake u.slots.entries u.slots.counts u.head.slots y
unfolding row_of
frame-take u e f y hy =
    record {
      small = f.limits.slots;
      y-in = omega (arith, f.limits.counts);
      row = record { fits = row_fits u e f y hy; room = f.room y hy; rising = record { rises = f.rising y hy }; unused = λ k low high. f.unused.slots y k hy low high };
    }

frame-tail : (u : Store) (e : ℕ) → Frame u e → (y : ℕ) → y < u.head.h → 0 < u.head.n → InTail u.words u.head.n y 0
frame-tail u e f y hy some = record { small = omega (arith, f.limits.tail, f.maps.wide, f.limits.width); column = some; row = frame-words u e f y hy }

-- a number of the first i is one of the list
in_take : (i q : ℕ) (l : List ℕ) → i ≤ length l → member q (take i l) ≡ true → member q l ≡ true
in_take i q l h m = member-place (take i l) q m (λ j hj e. let low : j < i = omega (arith, length-take-le i l h) in
    rw (sym (sym (get_or-take i l j 0 low) ∙ e)) (member-at l j (omega arith)))

-- the store with the words ws
abbrev pub over : Store → List ℕ → Store
over s ws = record { head = s.head; slots = s.slots; rows = s.rows; columns = s.columns; index = s.index; words = ws }

module _ (s : Store) (v : WellFormed s) (p : Column) (free : 0 ≡ refusal_of (inner (Freeze p) (full_of s []))) where
  can : CanFreeze s p.c
  can = let b = past (Freeze p) (full_of s []) free in can-freeze (full_of s []) v p b.0 b.1

  pub column-low : p.c < 65536
  column-low = omega (arith, can.last, v.maps.wide, v.limits.width)

  c-made : p.c < s.head.made
  c-made = omega (arith, can.last, v.maps.wide)

  pub home-in : (q : ℕ) → q ≡ p.c → q < length s.columns.homes
  home-in q e = omega (arith, e, c-made, v.maps.columns.f-long)

  pub grow-can : CanGrow s.words s.head.n s.head.h
  grow-can = record { small = omega (arith, v.limits.tail, v.maps.wide, v.limits.width); room = can.room }

  sound : IndexOk (row s) s.head.h s.head.made s.index.starts s.index.entries s.columns.logicals s.index.marks (edge s)
  sound = v.index.on can.on

  module _ (q z : ℕ) (q-is : q ≡ p.c) (z-is : z ≡ get_or s.columns.homes q 0) where
    home-is : z ≡ home_column s p.c
    home-is = z-is ∙ ap (home_column s) q-is

    z-made : z < s.head.made
    z-made = rw home-is (v.maps.columns.f-below p.c c-made)

    pub list-can : (x : ℕ) → x ≡ z → CanList s.index.starts s.index.entries x
    list-can x e = rw e (can-list (row s) s.head.h s.head.made s.index.starts s.index.entries s.columns.logicals s.index.marks (edge s) sound z z-made (omega (arith, v.limits.starts)))

    module _ (x : ℕ) (x-is : x ≡ z) (list : List ℕ) (list-is : list ≡ list_at s.index.starts s.index.entries x)
        (ws : List ℕ) (ws-are : ws ≡ grown s.words s.head.n s.head.h) where
      the-list : list ≡ list_at s.index.starts s.index.entries z
      the-list = list-is ∙ ap (list_at s.index.starts s.index.entries) x-is

      listed : (q : ℕ) → member q list ≡ true → q < s.head.h
      listed q m = sound.below z q z-made (rw the-list at m)

      walked : (i : ℕ) → i ≤ length list → Frozen (edge s) z (take i list) (wider (over s ws)) (freeze_rows z (take i list) (wider (over s ws)))
      walked i h = freeze-rows (edge s) z (take i list) 0 (from-take 0 i list (rw the-list (sound.rising z z-made))) (wider (over s ws)) (rw ws-are (g-frame s v p.c can)) (omega arith)
          (λ q m. listed q (in_take i q list h m))

      module _ (slots counts words : List ℕ) (i : ℕ) (t : Turn (over s ws) z list slots counts words i) where
        f : Frozen (edge s) z (take i list) (wider (over s ws)) (freeze_rows z (take i list) (wider (over s ws)))
        f = walked i t.low

        -- no list changes its length
        pub slots-long : length slots ≡ length s.slots.entries
        slots-long = rw t.holds.slots-are f.room.entries

        pub counts-long : length counts ≡ length s.slots.counts
        counts-long = rw t.holds.counts-are f.room.counts

        pub words_long : length words ≡ length s.words
        words_long = rw t.holds.words_are f.room.words ∙ ap length ws-are ∙ grown-length s.words s.head.n s.head.h can.room

        module _ (test : i < length list) (y : ℕ) (y-is : y ≡ get_or list i 0) where
          low-y : y < s.head.h
          low-y = rw y-is (listed (get_or list i 0) (member-at list i test))

          pub turn-take : CanTake slots counts s.head.slots y
          turn-take = rw (t.holds.slots-are, t.holds.counts-are)
              (subst (λ (d : Head). CanTake (freeze_rows z (take i list) (wider (over s ws))).slots.entries (freeze_rows z (take i list) (wider (over s ws))).slots.counts d.slots y) f.head
              (frame-take (freeze_rows z (take i list) (wider (over s ws))) (edge s) f.frame y (rw f.head low-y)))

          pub turn-tail : InTail words (s.head.n + 1) y 0
          turn-tail = rw (add-one s.head.n, t.holds.words_are)
              (subst (λ (d : Head). InTail (freeze_rows z (take i list) (wider (over s ws))).words d.n y 0) f.head
              (frame-tail (freeze_rows z (take i list) (wider (over s ws))) (edge s) f.frame y (rw f.head low-y) (rw f.head (omega arith))))

          pub turn-next : (S C W : List ℕ) (had : Bool)
              → (had ≡ member z (row_of slots counts s.head.slots y))
              × ((S ≡ pick (member z (row_of slots counts s.head.slots y)) (put_row slots (y * s.head.slots) s.head.slots (take_out z (row_of slots counts s.head.slots y))) slots)
              × (C ≡ pick (member z (row_of slots counts s.head.slots y)) (set counts y (length (take_out z (row_of slots counts s.head.slots y)))) counts))
              → W ≡ pick had (tail_put words (s.head.n + 1) y 0 true) words
              → Turn (over s ws) z list S C W (i + 1)
          turn-next S C W had out in_words =
              record {
                low = omega (arith, test);
                holds = subst (λ (u : Store). Holds u S C W) next
                    (one-row (freeze_rows z (take i list) (wider (over s ws))) s.head.slots (s.head.n + 1) y z (ap (λ (d : Head). d.slots) (sym f.head)) (add-one s.head.n ∙ ap (λ (d : Head). d.n) (sym f.head))
                    slots counts words t.holds S C W had out in_words);
              }
            where
              next : freeze_row (freeze_rows z (take i list) (wider (over s ws))) z y ≡ freeze_rows z (take (i + 1) list) (wider (over s ws))
              next = sym (rw (add-one i, take-suc list i 0 test, sym y-is) (freeze-more z y (take i list) (wider (over s ws))))

        pub freeze-done : length list ≤ i
            → ◌≡◌ {A = Result}
            (record {
              reply = ok [];
              after =
                  full_of
                  (record {
                    head = record { h = s.head.h; w = s.head.w; n = s.head.n + 1; slots = s.head.slots; made = s.head.made; on = s.head.on };
                    slots = record { entries = slots; counts = counts };
                    rows = s.rows;
                    columns = s.columns;
                    index = s.index;
                    words = words;
                  })
                  [];
            })
            (result_of (full_of s []) (inner (Freeze p) (full_of s [])))
        freeze-done end = ap (λ (u : Store). record { reply = ok []; after = full_of u [] }) (written ∙ sym parts ∙ whole) ∙ sym (accepted (Freeze p) (full_of s []) free)
          where
            -- what is not touched, written out
            parts : freeze_rows z (take i list) (wider (over s ws))
                ≡ record { head = (grown_tail s).head; slots = (freeze_rows z (take i list) (wider (over s ws))).slots; rows = s.rows; columns = s.columns; index = s.index; words = (freeze_rows z (take i list) (wider (over s ws))).words }
            parts j =
                record {
                  head = f.head j;
                  slots = (freeze_rows z (take i list) (wider (over s ws))).slots;
                  rows = f.rows j;
                  columns = f.columns j;
                  index = f.index j;
                  words = (freeze_rows z (take i list) (wider (over s ws))).words;
                }

            written : ◌≡◌ {A = Store}
                (record {
                  head = record { h = s.head.h; w = s.head.w; n = s.head.n + 1; slots = s.head.slots; made = s.head.made; on = s.head.on };
                  slots = record { entries = slots; counts = counts };
                  rows = s.rows;
                  columns = s.columns;
                  index = s.index;
                  words = words;
                })
                (record { head = (grown_tail s).head; slots = (freeze_rows z (take i list) (wider (over s ws))).slots; rows = s.rows; columns = s.columns; index = s.index; words = (freeze_rows z (take i list) (wider (over s ws))).words })
            written = rw (add-one s.head.n, t.holds.slots-are, t.holds.counts-are, t.holds.words_are)

            whole : freeze_rows z (take i list) (wider (over s ws)) ≡ freeze_column p.c s
            whole = rw (take_all i list end, the-list, home-is, ws-are)
