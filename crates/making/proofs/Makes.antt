-- MAKE over any lent numbers: its numbers fit, what its checks leave, and one law for each way out. Assumes nothing.
use mathlib.Core.Path.{◌≡◌, refl, sym, ap, ◌∙◌}
use mathlib.Core.Bool.{Bool, true, false, not}
use mathlib.Core.List.{List, []}
use Prim.Native.Nat.{ℕ, ◌*◌, ◌≤◌, ◌<◌}
use native.Mathlib.Omega.{arith}
use native.Mathlib.Nat.{mul-le-mul}
use lib.ListN.{length}
use Rattle.laws.specs.Parts.{zeros}
use Rattle.laws.specs.Words.{words_for}
use Rattle.laws.proofs.Bools.{and-false, quiet-first}
use Rattle.permutation.specs.Maps.{identity}
use Rattle.permutation.specs.Asked.{CanNumber}
use Rattle.table.specs.declared.Sizes.{Sizes}
use Rattle.table.specs.declared.Op.TheVariants.{Make}
use Rattle.table.specs.Step.{height_limit, width_limit, checks}
use Rattle.table.specs.Room.{short, room_checks, passes}
use Rattle.model.specs.Store.{Store, table_of, lent_of, held_of}
use Rattle.model.specs.Check.{well_formed}
use Rattle.model.specs.Step.{Result, inner, step, result_of}
use Rattle.model.proofs.Make.{CanMake}
use Rattle.model.proofs.Passed.{can-make}
use Rattle.store_head.specs.Lent.{full_of}
use Rattle.std.specs.Prelude as err
use Rattle.std.specs.Prelude.{IsErrAnd}
use Rattle.store_head.specs.declared.refusal.Refusal as code
use Rattle.store_head.specs.Told.{change_told}
use Rattle.store_head.specs.Refused.{refusal_of}
use Rattle.store_head.specs.Refused as by
use Rattle.store_head.proofs.Ends.{Refuses, Leaves}
use Rattle.store_head.proofs.Refuses.{past, handed-on, number_of, none_of}
use Rattle.store_head.proofs.Calls.{make-any}
use Rattle.making.specs.Making.{outside}

-- a product of two 32-bit numbers has 64 bits
pub product-fits : (a b : ℕ) → a < 4294967296 → b < 4294967296 → a * b < 18446744073709551616
product-fits a b ha hb = omega (arith, mul-le-mul {n₁ = a} {m₁ = b} {n₂ = 4294967295} {m₂ = 4294967295} (omega arith) (omega arith))

-- a row has no more words than 32 bits count
pub words-few : (n : ℕ) → n < 4294967296 → words_for n < 4294967296
words-few n h = omega arith

-- what the maps' numbering asks
pub rows-number : (map : List ℕ) (k : ℕ) → k ≤ length map → k ≤ height_limit → CanNumber map k 4294967295
rows-number map k long low = record { in-it = long; held = omega arith }

pub columns-number : (map : List ℕ) (k : ℕ) → k ≤ length map → k ≤ width_limit → CanNumber map k 65535
columns-number map k long low = record { in-it = long; held = low }

module _ (p : Sizes) (s : Store) where
  -- ---- the ways out
  pub make-outside : (a : Bool) → a ≡ outside p → a ≡ true
      → Refuses step (Make p) s 2
  unfolding step
  make-outside a x passes = rw (and-false (not (well_formed s)), sym x ∙ passes)

  pub make-short : (a b : Bool) → a ≡ outside p → a ≡ false → b ≡ short (lent_of (full_of s [])) p → b ≡ true
      → Refuses step (Make p) s 3
  unfolding step
  make-short a b x a-no y passes = rw (and-false (not (well_formed s)), sym x ∙ a-no, sym y ∙ passes)

  pub make-done : (a b : Bool) → a ≡ outside p → a ≡ false → b ≡ short (lent_of (full_of s [])) p → b ≡ false
      → (slots counts words marks starts entries row_homes row_logicals column_homes column_logicals : List ℕ)
      → slots ≡ zeros (length s.slots.entries) → counts ≡ zeros (length s.slots.counts) → words ≡ zeros (length s.words)
      → marks ≡ zeros (length s.index.marks) → starts ≡ zeros (length s.index.starts) → entries ≡ zeros (length s.index.entries)
      → row_homes ≡ identity (length s.rows.homes) p.h → row_logicals ≡ identity (length s.rows.logicals) p.h
      → column_homes ≡ identity (length s.columns.homes) p.w → column_logicals ≡ identity (length s.columns.logicals) p.w
      → Leaves step (Make p) s (record { head = record { h = p.h; w = p.w; n = p.n; slots = p.slots; made = p.w; on = false }; slots = record { entries = slots; counts = counts }; rows = record { homes = row_homes; logicals = row_logicals }; columns = record { homes = column_homes; logicals = column_logicals }; index = record { starts = starts; entries = entries; marks = marks }; words = words })
  unfolding step
  make-done a b x a-no y b-no slots counts words marks starts entries row_homes row_logicals column_homes column_logicals c d e f g h i j k l =
      rw (c, d, e, f, g, h, i, j, k, l, and-false (not (well_formed s)), sym x ∙ a-no, sym y ∙ b-no)

  -- ---- the number of the refusal
  as-inner : result_of (full_of s []) (step (Make p) (full_of s [])) ≡ result_of (full_of s []) (inner (Make p) (full_of s []))
  as-inner = sym (ap (result_of (full_of s [])) (make-any (Make p) (full_of s []) refl))

  pub make-number : (k : ℕ) → Refuses step (Make p) s k → k ≡ refusal_of (inner (Make p) (full_of s []))
  make-number k e = number_of (Make p) s k (e ∙ as-inner)

  pub make-none : (u : Store) → Leaves step (Make p) s u → 0 ≡ refusal_of (inner (Make p) (full_of s []))
  make-none u e = none_of (Make p) s u (e ∙ as-inner)

  -- `?`: a refusal is handed on as it is, and nothing is changed
  pub make-refused : (r : err.Result (Unit {0}) code.Refusal) (k : code.Refusal) → IsErrAnd r (λ e. e ≡ k) → by.number_of k ≡ refusal_of (inner (Make p) (full_of s []))
      → ◌≡◌ {A = Result} (change_told r s) (result_of (full_of s []) (step (Make p) (full_of s [])))
  make-refused r k h e = handed-on (Make p) s r k h e ∙ sym as-inner

  -- ---- nothing refuses
  module _ (free : 0 ≡ refusal_of (inner (Make p) (full_of s []))) where
    passed : (passes (checks (Make p) (table_of s)) ≡ true) × (passes (room_checks (held_of (full_of s [])).room (Make p) (table_of s)) ≡ true)
    passed = past (Make p) (full_of s []) free

    pub made-can : CanMake p s
    made-can = can-make (full_of s []) p passed.0 passed.1

    pub inside : outside p ≡ false
    inside = quiet-first (outside p) true passed.0

    pub long-enough : short (lent_of (full_of s [])) p ≡ false
    long-enough = quiet-first (short (lent_of (full_of s [])) p) true passed.1
