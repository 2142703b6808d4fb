-- RESIZE: its refusals, and one step of each of its walks: a row brought home, the rows behind dropped, a row cut to the columns that stay. Assumes nothing.
use mathlib.Core.Path.{◌≡◌, refl, sym, ◌∙◌}
use mathlib.Core.Bool.{Bool, true, false, ◌&&◌, ◌||◌}
use mathlib.Core.List.{List, []}
use Prim.Native.Nat.{ℕ, ◌-◌, ◌*◌, ◌≤◌, ◌<◌}
use native.Mathlib.Omega.{arith}
use native.Mathlib.Nat.{mul-le-mul_right}
use lib.Dec.{ltb}
use lib.ListN.{length, get_or, set}
use borrow.Author.Tests.{le-ltb, lt-ltb, eq-eqb, ne_eqb}
use Rattle.laws.specs.Plain.{pick}
use Rattle.laws.specs.Parts.{zeros, part, put_at, row_of}
use Rattle.laws.specs.Words.{words_for}
use Rattle.laws.proofs.Parts.{row-end, part_length}
use Rattle.laws.proofs.Members.{member-at}
use Rattle.lent.specs.Stretch.{Stretch}
use Rattle.sparse_vec.specs.Row.{put_row, kept_below}
use Rattle.sparse_vec.specs.Calls.{CanRetain}
use Rattle.sparse_vec.proofs.Keeping.{kept-length}
use Rattle.permutation.specs.Maps.{CanSwap, swapped, turned}
use Rattle.lent.specs.Stretch.{Apart}
use Rattle.table.specs.declared.Shape.{Shape}
use Rattle.table.specs.declared.Op.TheVariants.{Resize}
use Rattle.table.specs.Refusals.{refused, done}
use Rattle.model.specs.Store.{Store, Full, edge, row, home_row}
use Rattle.model.specs.WellFormed.{WellFormed}
use Rattle.model.specs.Change.{with_row, exchanged, bring_home, drop_rows}
use Rattle.model.specs.Step.{inner}
use Rattle.model.proofs.Rows.{frame-of, rows_apart}
use Rattle.store_head.specs.Lent.{full_of}
use Rattle.store_head.specs.Refused.{refusal_of}
use Rattle.reshape.specs.Resized.{CanTrade}
use Rattle.reshape.proofs.Freezes.{frame-take}

-- ---- the refusals

-- two, one after the other
numbers : (a b : Bool) (u : Full) (l : List ℕ) → refusal_of (pick a (refused 8) (pick b (refused 9) (done u l))) ≡ pick a 8 (pick b 9 0)
numbers true b u l = refl
numbers false true u l = refl
numbers false false u l = refl

-- some columns go, and fewer than the tail has
abbrev torn : Store → Shape → Bool
torn s p = ltb 0 (s.head.w - p.w) && ltb (s.head.w - p.w) s.head.n

module _ (s : Store) (p : Shape) where
  -- the refusal as a choice by two tests
  chosen : refusal_of (inner (Resize p) (full_of s []))
      ≡ pick (ltb s.head.h p.h || ltb s.head.w p.w || torn s p) 8 (pick s.head.on 9 0)
  unfolding inner
  chosen = numbers (ltb s.head.h p.h || ltb s.head.w p.w || torn s p) s.head.on _ _

  pub higher : s.head.h < p.h → 8 ≡ refusal_of (inner (Resize p) (full_of s []))
  higher h = sym (chosen ∙ rw (lt-ltb s.head.h p.h h))

  module _ (hh : p.h ≤ s.head.h) where
    pub wider : s.head.w < p.w → 8 ≡ refusal_of (inner (Resize p) (full_of s []))
    wider h = sym (chosen ∙ rw (le-ltb s.head.h p.h hh, lt-ltb s.head.w p.w h))

    module _ (hw : p.w ≤ s.head.w) (b : Bool) (b-is : b ≡ torn s p) where
      pub tears : b ≡ true → 8 ≡ refusal_of (inner (Resize p) (full_of s []))
      tears e = sym (chosen ∙ rw (le-ltb s.head.h p.h hh, le-ltb s.head.w p.w hw, sym b-is ∙ e))

      pub index_on : b ≡ false → s.head.on ≡ true → 9 ≡ refusal_of (inner (Resize p) (full_of s []))
      index_on e o = sym (chosen ∙ rw (le-ltb s.head.h p.h hh, le-ltb s.head.w p.w hw, sym b-is ∙ e, o))

      pub free : b ≡ false → s.head.on ≡ false → 0 ≡ refusal_of (inner (Resize p) (full_of s []))
      free e o = sym (chosen ∙ rw (le-ltb s.head.h p.h hh, le-ltb s.head.w p.w hw, sym b-is ∙ e, o))

-- the head alone decides
pub by-head : (s u : Store) → u.head ≡ s.head → (p : Shape) (k : ℕ) → k ≡ refusal_of (inner (Resize p) (full_of u [])) → k ≡ refusal_of (inner (Resize p) (full_of s []))
by-head s u e p k q = q ∙ chosen u p ∙ rw e (sym (chosen s p))

-- the code's test of it, whether none go or some
pub none-go : (g n : ℕ) → g ≡ 0 → false ≡ ltb 0 g && ltb g n
none-go g n e = rw e

pub some_go : (g n : ℕ) → (g ≡ 0 → ⊥) → ltb g n ≡ ltb 0 g && ltb g n
some_go g n e = sym (rw (lt-ltb 0 g (omega arith)))

-- ---- two rows change places
pub trade-words : (words : List ℕ) (n k y x : ℕ) → k ≡ words_for n → Apart words (y * words_for n) (x * words_for n) (words_for n) → Apart words (y * k) (x * k) k
trade-words words n k y x e a = rw e a

pub words-traded : (words W : List ℕ) (n k y x : ℕ) → k ≡ words_for n → W ≡ put_at (put_at words (y * k) (part words (x * k) k)) (x * k) (part words (y * k) k)
    → W ≡ exchanged words (y * words_for n) (x * words_for n) (words_for n)
words-traded words W n k y x e w = w ∙ rw e

-- ---- row r of a well-formed store, kept in home y, is brought to home r
module _ (s : Store) (v : WellFormed s) (r : ℕ) (hr : r < s.head.h) (y : ℕ) (y-is : y ≡ home_row s r) where
  low-y : y < s.head.h
  low-y = rw y-is (v.maps.rows.f-below r hr)

  pub row-in : r < length s.rows.homes
  row-in = omega (arith, v.maps.rows.f-long)

  pub is_home : y ≡ r → s ≡ bring_home s r
  is_home e = rw (eq-eqb (home_row s r) r (sym y-is ∙ e))

  module _ (ne : y ≡ r → ⊥) where
    pub can-trade : CanTrade s.slots.entries s.slots.counts s.head.slots y r
    can-trade =
        record {
          places = record {
            first = omega (arith, row-end y s.head.h s.head.slots low-y, v.limits.entries);
            second = omega (arith, row-end r s.head.h s.head.slots hr, v.limits.entries);
            apart = rows_apart s.head.slots y r ne;
          };
          y-in = omega (arith, low-y, v.limits.counts);
          x-in = omega (arith, v.limits.counts);
        }

    pub can-trade-words : Apart s.words (y * words_for s.head.n) (r * words_for s.head.n) (words_for s.head.n)
    can-trade-words =
        record {
          first = omega (arith, row-end y s.head.h (words_for s.head.n) low-y, v.limits.words);
          second = omega (arith, row-end r s.head.h (words_for s.head.n) hr, v.limits.words);
          apart = rows_apart (words_for s.head.n) y r ne;
        }

    pub can-turn : CanSwap s.rows.logicals s.rows.homes y r
    can-turn =
        record {
          i-in = omega (arith, low-y, v.maps.rows.g-long);
          j-in = omega (arith, v.maps.rows.g-long);
          i-home = omega (arith, v.maps.rows.g-below y low-y, v.maps.rows.f-long);
          j-home = omega (arith, v.maps.rows.g-below r hr, v.maps.rows.f-long);
        }

    pub brought : (S C H L W : List ℕ) → (S ≡ exchanged s.slots.entries (y * s.head.slots) (r * s.head.slots) s.head.slots) × (C ≡ swapped s.slots.counts y r)
        → W ≡ exchanged s.words (y * words_for s.head.n) (r * words_for s.head.n) (words_for s.head.n)
        → (L ≡ swapped s.rows.logicals y r) × (H ≡ turned s.rows.logicals s.rows.homes y r)
        → ◌≡◌ {A = Store} (record { head = s.head; slots = record { entries = S; counts = C }; rows = record { homes = H; logicals = L }; columns = s.columns; index = s.index; words = W }) (bring_home s r)
    brought S C H L W sc w lh = rw (ne_eqb (home_row s r) r (λ e. ne (y-is ∙ e)), sc.0, sc.1, lh.0, lh.1, w, y-is)

-- ---- the rows from home k on are cleared
module _ (s : Store) (v : WellFormed s) (k : ℕ) (low : k ≤ s.head.h) where
  pub drop-slots : Stretch s.slots.entries (k * s.head.slots) (s.head.h * s.head.slots)
  drop-slots = record { in_order = mul-le-mul_right s.head.slots low; in-it = v.limits.entries }

  pub drop-words : (size : ℕ) → size ≡ words_for s.head.n → Stretch s.words (k * size) (s.head.h * size)
  drop-words size size_is = rw size_is (record { in_order = mul-le-mul_right (words_for s.head.n) low; in-it = v.limits.words })

  pub dropped : (size : ℕ) → size ≡ words_for s.head.n → (S C H L W : List ℕ)
      → S ≡ put_at s.slots.entries (k * s.head.slots) (zeros (s.head.h * s.head.slots - k * s.head.slots)) → C ≡ put_at s.slots.counts k (zeros (s.head.h - k))
      → H ≡ put_at s.rows.homes k (zeros (s.head.h - k)) → L ≡ put_at s.rows.logicals k (zeros (s.head.h - k)) → W ≡ put_at s.words (k * size) (zeros (s.head.h * size - k * size))
      → ◌≡◌ {A = Store} (record { head = record { h = k; w = s.head.w; n = s.head.n; slots = s.head.slots; made = s.head.made; on = s.head.on }; slots = record { entries = S; counts = C }; rows = record { homes = H; logicals = L }; columns = s.columns; index = s.index; words = W }) (drop_rows k s)
  dropped size size_is S C H L W a b c d e = rw (a, b, c, d, e, size_is)

-- ---- home row y keeps the columns below w
module _ (s : Store) (v : WellFormed s) (y : ℕ) (low : y < s.head.h) (w : ℕ) where
  pub row-can : CanRetain s.slots.entries (y * s.head.slots) (get_or s.slots.counts y 0) s.head.slots s.columns.logicals
  unfolding row_of
  row-can =
      record {
        row = (frame-take s (edge s) (frame-of s v) y low).row;
        mapped = record { low = λ j h. omega (arith, v.rows.home y (get_or (row s y) j 0) low (member-at (row s y) j h), v.maps.columns.g-long) };
      }

  pub counted : y < length s.slots.counts
  counted = omega (arith, v.limits.counts)

  module _ (S : List ℕ) (kept : ℕ)
      (left : (kept ≡ length (kept_below s.columns.logicals w (part s.slots.entries (y * s.head.slots) (get_or s.slots.counts y 0)))) × (S ≡ put_row s.slots.entries (y * s.head.slots) s.head.slots (kept_below s.columns.logicals w (part s.slots.entries (y * s.head.slots) (get_or s.slots.counts y 0))))) where
    pub kept_low : kept ≤ 65535
    kept_low =
        omega (arith, left.0, kept-length (part s.slots.entries (y * s.head.slots) (get_or s.slots.counts y 0)) s.columns.logicals w, part_length s.slots.entries (y * s.head.slots) (get_or s.slots.counts y 0) (omega (arith, row-can.row.fits, row-can.row.room)), row-can.row.room, v.limits.slots)

    pub row_kept : ◌≡◌ {A = Store} (record { head = s.head; slots = record { entries = S; counts = set s.slots.counts y kept }; rows = s.rows; columns = s.columns; index = s.index; words = s.words }) (with_row s y (kept_below s.columns.logicals w (row s y)))
    unfolding row_of
    row_kept = rw (left.0, left.1)
