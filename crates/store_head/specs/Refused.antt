-- Which number refuses a call, where the code asks for that before it writes. Assumes nothing.
use Rattle.std.specs.Prelude.{ℕ, Result, Ok, Err}
use Rattle.table.specs.Refusals.{Verdict, refused, done}
use Rattle.store_head.specs.declared.refusal.Refusal.{Refusal}
use Rattle.store_head.specs.declared.refusal.Refusal.TheVariants as refusal

-- the number of the refusal, and 0 where nothing refuses
abbrev pub refusal_of : {S : Type 0} → Verdict S → ℕ
refusal_of (refused k) = k
refusal_of (done s a) = 0

-- 01, "Numbered refusals"
abbrev pub number_of : Refusal → ℕ
number_of refusal.Damaged = 1
number_of refusal.Size = 2
number_of refusal.Buffers = 3
number_of refusal.Row = 4
number_of refusal.Column = 5
number_of refusal.Side = 6
number_of refusal.Same = 7
number_of refusal.Shrink = 8
number_of refusal.Phase = 9
number_of refusal.Single = 10
number_of refusal.Spent = 11
number_of refusal.Slots = 12
number_of refusal.Words = 13
number_of refusal.Entries = 14
number_of refusal.Answer = 15
number_of refusal.Record = 16
number_of refusal.Cut = 17

-- the number by which the code refuses, and 0 where it does not
abbrev pub refused_by : {A : Type 0} → Result A Refusal → ℕ
refused_by (Ok x) = 0
refused_by (Err k) = number_of k
