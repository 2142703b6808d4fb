-- What the program's own tests tell of a row, in the form that the calls ask for. Assumes nothing.
use mathlib.Core.Path.{◌≡◌, sym, ◌∙◌}
use mathlib.Core.Logic.{◌⊎◌, ⊎_elim}
use Rattle.laws.proofs.Numbers.{lt-or-le}
use mathlib.Core.Bool.{Bool, true}
use mathlib.Core.List.{List}
use Prim.Native.Nat.{ℕ, ◌+◌, ◌≤◌}
use native.Mathlib.Omega.{arith}
use lib.ListN.{length, get_or}
use Rattle.laws.specs.Rows.{member}
use Rattle.laws.specs.Parts.{part}
use Rattle.laws.proofs.Bools.{by-test}
use Rattle.laws.proofs.Members.{member-at, put-length}
use Rattle.laws.proofs.Parts.{part_length}
use Rattle.sparse_vec.specs.Row.{CanInsert, CanAdd, row_test}
use Rattle.sparse_vec.specs.Calls.{CanWalk, CanRetain}
use Rattle.sparse_vec.proofs.Walking.{walked-length}
use Rattle.sparse_vec.proofs.Keeping.{test-sound}
use Rattle.sparse_vec_try.specs.Tests.{IsRow, ZeroBetween}

pub row_told : (row map : List ℕ) (r : Bool) → r ≡ row_test map 65535 0 row → r ≡ true → IsRow row map
row_told row map r e t =
    let ok = test-sound row map 65535 (sym e ∙ t) in
    record {
      rising = ok.0;
      mapped = record { low = λ j h. (ok.1 (get_or row j 0) (member-at row j h)).0 };
    }

pub stretch-told : (slots map : List ℕ) (at len cap : ℕ) → at + cap ≤ length slots → len ≤ cap → IsRow (part slots at len) map
    → ZeroBetween slots (at + len) (at + cap) → CanRetain slots at len cap map
stretch-told slots map at len cap f r i z = record {
  row = record { fits = f; room = r; rising = i.rising; unused = λ k h l. z.zero (at + k) (omega arith) (omega arith) };
  mapped = i.mapped;
}

pub can-insert : (slots map : List ℕ) (at len cap x : ℕ) → CanRetain slots at len cap map → (len ≡ cap → ⊥) → CanInsert slots at len cap x
can-insert slots map at len cap x C ne = record {
  row = C.row;
  more = by-test (member x (part slots at len))
      (λ t. rw (put-length x (part slots at len) 0 C.row.rising.rises, t) (omega (arith, long, C.row.room)))
      (λ n. rw (put-length x (part slots at len) 0 C.row.rising.rises, n) (omega (arith, long, C.row.room)));
}
  where
    long : length (part slots at len) ≡ len
    long = part_length slots at len (omega (arith, C.row.fits, C.row.room))

pub can-walk : (row map : List ℕ) (a b : ℕ) (answers : List ℕ) → IsRow row map → length row ≤ length answers → CanWalk row map a b answers
can-walk row map a b answers i h = record { mapped = i.mapped; room = omega (arith, walked-length row map a b) }

-- ---- the loop over places that are to be zero
pub zero-start : (slots : List ℕ) (from : ℕ) → ZeroBetween slots from from
zero-start slots from = record { zero = λ k h l. absurd (omega arith) }

pub zero_more : (slots : List ℕ) (from k : ℕ) → ZeroBetween slots from k → get_or slots k 0 ≡ 0 → ZeroBetween slots from (k + 1)
zero_more slots from k z e = record { zero = λ j h l. ⊎_elim (λ o. z.zero j h o) (λ o. let q : j ≡ k = omega arith in rw q e) (lt-or-le j k) }

pub zero-all : (slots : List ℕ) (from k to : ℕ) → ZeroBetween slots from k → to ≤ k → ZeroBetween slots from to
zero-all slots from k to z h = record { zero = λ j a l. z.zero j a (omega arith) }

-- two rows that lie apart, in stretches of one size
pub can-add : (slots map : List ℕ) (d dl s sl cap room : ℕ) → CanRetain slots d dl cap map → CanRetain slots s sl room map → room ≡ cap
    → (d + cap ≤ s) ⊎ (s + room ≤ d) → CanAdd slots d dl s sl cap
can-add slots map d dl s sl cap room C B e a = record { row = C.row; source = rw e at B.row; apart = rw e at a }
