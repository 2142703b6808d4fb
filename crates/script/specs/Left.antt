-- What a run leaves and hands back: 01, "A run takes a list of operations as script records and writes the script program's lines to lent bytes".
-- Assumes nothing.
use Rattle.std.specs.Prelude.{List, [], ◌∷◌, ◌++◌, ℕ, zero, suc, ◌+◌, ◌-◌, length, Result, Ok, Err}
use Rattle.std.proofs.lemmas.List.Edits.{sets}
use Rattle.table.specs.Refusals.{Verdict, refused, done}
use Rattle.table.specs.Run.{Reply, ok, nay, runs, run, cut}
use Rattle.table.specs.Run as table
use Rattle.model.specs.Store.{Full}
use Rattle.model.specs.Check.{well_formed}
use Rattle.model.specs.Step.{step}
use Rattle.records.specs.declared.Read.{Read}
use Rattle.records.specs.declared.Read.TheVariants.{Whole, Wrong, Cut, End}
use Rattle.records.specs.Reading.{read_at}
use Rattle.records.specs.Records.{records_at, records_of}
use Rattle.lines.specs.Line.{line_of, line_long}
use Rattle.store_head.specs.declared.refusal.Refusal.{Refusal}
use Rattle.store_head.specs.Refused.{number_of}
use Rattle.script.specs.declared.Stand.{Stand}

-- "One line per record": the lines of the replies, one after the other
unfoldable pub lines_of : List Reply → List ℕ
lines_of [] = []
lines_of (r ∷ rs) = line_of r ++ lines_of rs

-- where the record at a position ends in a script of n bytes. "Any other record cut short .. gives CUT, which ends it": then all bytes are done
abbrev pub end_of : Read → ℕ → ℕ → (ℕ → ℕ) → ℕ
end_of (Whole r k) n at rest = rest k
end_of (Wrong k) n at rest = rest k
end_of Cut n at rest = n
end_of End n at rest = at

-- "how many record bytes are done": the position after the first k records from a position on
unfoldable pub bytes_of : ℕ → List ℕ → ℕ → ℕ
bytes_of zero s at = at
bytes_of (suc k) s at = end_of (read_at s at) (length s) at (bytes_of k s)

-- a run's answer, the store and the answer buffer, and the line bytes
pub record Left : Type 0 where
  pub reply : Reply
  pub after : Full
  pub lines : List ℕ

-- the answer: record bytes done, line bytes written
abbrev pub stands : ℕ → ℕ → Full → List ℕ → Left
stands at used f out = record { reply = ok (at ∷ used ∷ []); after = f; lines = out }

-- what is left where the replies of a run from position `at` on are written from byte `used` on
abbrev pub left_at : List ℕ → ℕ → ℕ → List ℕ → table.Ran Full → Left
left_at s at used out x =
    stands (bytes_of (length x.said) s at) (used + length (lines_of x.said)) x.state (sets out used (lines_of x.said))

-- the rest of a run that stands at a position of the script s, with `used` line bytes written: each record counts as its single call
abbrev pub resumed : List ℕ → ℕ → ℕ → List ℕ → Full → Left
resumed s at used out f = left_at s at used out (runs step line_long (length out - used) (records_at s at) f)

-- refused, a run leaves all as it was
abbrev pub left_by : List ℕ → List ℕ → Full → Verdict (table.Ran Full) → Left
left_by s out f (refused k) = record { reply = nay k; after = f; lines = out }
left_by s out f (done x a) = left_at s 0 0 out x

-- THE RUN over the script s, the store and answer buffer f and the line bytes `out`: the fold of single calls over the records
abbrev pub run_of : List ℕ → List ℕ → Full → Left
run_of s out f = left_by s out f (run (well_formed f.store) step line_long (length out) (records_of s) f)

-- ---- what the code hands back, in these words: the state and the line bytes as they are left
abbrev pub ran_told : Result Stand Refusal → Full → List ℕ → Left
ran_told (Ok x) left lines = stands x.done x.written left lines
ran_told (Err k) left lines = record { reply = nay (number_of k); after = left; lines = lines }

-- how much of what was lent is done and written: none where the run is refused
abbrev pub done_in : Result Stand Refusal → ℕ
done_in (Ok x) = x.done
done_in (Err k) = 0

abbrev pub written_in : Result Stand Refusal → ℕ
written_in (Ok x) = x.written
written_in (Err k) = 0
