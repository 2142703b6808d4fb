-- What numbers take of a line, and a list measured piece by piece. Assumes nothing.
use mathlib.Core.Path.{◌≡◌, refl, sym, ap, ◌∙◌}
use mathlib.Core.List.{List, [], ◌∷◌, ◌++◌}
use Prim.Native.Nat.{ℕ, ◌+◌, ◌*◌, ◌≤◌, ◌<◌}
use native.Mathlib.Omega.{arith}
use lib.Dec.{leb, ltb}
use lib.ListN.{length, length-append}
use borrow.Author.Tests.{le-leb, lt-leb, lt-ltb, le-ltb}
use Rattle.table.specs.Run.{ok}
use Rattle.laws.proofs.Bools.{and_last}
use Rattle.lines.specs.Line.{dec, numbers, line_long}
use Rattle.lines.proofs.Numbers.{numbers-append}
use Rattle.lines.proofs.Writing.{numbers-none, numbers-one, long_ok}
use Rattle.lengths.specs.Length.{within, Takes}

-- ---- one number
pub takes_one : (n k : ℕ) → k ≡ length (dec n) → k ≤ 20 → Takes (n ∷ []) (1 + k)
takes_one n k e b = record { is = omega (arith, ap length (numbers-one n)); small = omega arith }

takes_none : Takes [] 0
takes_none = record { is = ap length numbers-none; small = omega arith }

-- where it is one of a to b-1
module _ (a b n : ℕ) where
  pub takes-below : n < a → Takes (within a b n) 0
  takes-below h = rw (lt-leb a n h) takes_none

  pub takes-above : b ≤ n → Takes (within a b n) 0
  takes-above h = rw (and_last (leb a n) (ltb n b) (le-ltb n b h)) takes_none

  pub takes-within : (k : ℕ) → a ≤ n → n < b → Takes (n ∷ []) k → Takes (within a b n) k
  takes-within k p q t = rw (le-leb a n p, lt-ltb n b q) t

-- ---- numbers one after the other
pub long-join : (l m : List ℕ) → length (numbers (l ++ m)) ≡ length (numbers l) + length (numbers m)
long-join l m = ap length (numbers-append l m) ∙ length-append (numbers l) (numbers m)

-- ---- a list measured from s on: `long` is counted, and `rest` is still to be counted
pub record Measured (s : ℕ) (whole : List ℕ) (long : ℕ) (rest : List ℕ) : Type 0 where
  pub makes : long + length (numbers rest) ≡ s + length (numbers whole)
  pub small : long + 21 * length rest ≤ s + 21 * length whole

pub measured-start : (s : ℕ) (whole rest : List ℕ) → rest ≡ whole → Measured s whole s rest
measured-start s whole rest e = rw e (record { makes = refl; small = omega arith })

-- a piece of the rest is counted
pub measured-more : (s : ℕ) (whole : List ℕ) (long : ℕ) (rest piece more : List ℕ) (k : ℕ) → Measured s whole long rest → rest ≡ piece ++ more → Takes piece k
    → Measured s whole (long + k) more
measured-more s whole long rest piece more k v e t = record {
  makes = omega (arith, v.makes, t.is, ap (λ l. length (numbers l)) e, long-join piece more);
  small = omega (arith, v.small, t.small, ap length e, length-append piece more);
}

-- nothing is left: of a list alone, and of a line, whose `ok` and newline take 3 bytes
module _ (whole : List ℕ) (long : ℕ) (rest : List ℕ) (e : rest ≡ []) where
  nothing : length (numbers rest) ≡ 0
  nothing = ap (λ l. length (numbers l)) e ∙ sym (ap length numbers-none)

  pub measured-list : Measured 0 whole long rest → Takes whole long
  measured-list v = record { is = omega (arith, v.makes, nothing); small = omega (arith, v.small) }

  pub measured-line : Measured 3 whole long rest → long ≡ line_long (ok whole)
  measured-line v = omega (arith, v.makes, nothing, long_ok whole)
