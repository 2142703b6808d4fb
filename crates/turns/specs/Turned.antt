-- What one record of a run leaves: 01, "It stops before the first record whose line would not fit whole, that record leaving no trace". Assumes nothing.
use Rattle.std.specs.Prelude.{List, ℕ, ◌+◌, ◌-◌, leb, length, Option, Some, None}
use Rattle.std.proofs.lemmas.List.Edits.{sets}
use Rattle.laws.specs.Plain.{pick}
use Rattle.table.specs.Refusals.{Verdict}
use Rattle.table.specs.Run.{reply_of, kept, perform, wrong, cut}
use Rattle.model.specs.Store.{Full}
use Rattle.model.specs.Step.{step}
use Rattle.records.specs.declared.Read.{Read}
use Rattle.records.specs.declared.Read.TheVariants.{Whole, Wrong, Cut, End}
use Rattle.records.specs.Reading.{read_at}
use Rattle.lines.specs.declared.Lines.{Lines}
use Rattle.lines.specs.Line.{line_of, line_long}

-- what a record leaves over states S: where the next one starts, none where the run stops before this one; how many line bytes are written, the state and the line bytes
pub record Turned (S : Type 0) : Type 0 where
  pub next : Option ℕ
  pub used : ℕ
  pub after : S
  pub lines : List ℕ

-- .. where the run stops: all is as it was
abbrev pub stopped : {S : Type 0} → ℕ → List ℕ → S → Turned S
stopped used out s = record { next = None; used = used; after = s; lines = out }

-- .. where it comes to v: "It stops before the first record whose line would not fit whole, that record leaving no trace"
abbrev pub turn_by : {S : Type 0} → Verdict S → ℕ → ℕ → List ℕ → S → Turned S
turn_by v next used out s =
    pick (leb (line_long (reply_of v)) (length out - used))
    (record { next = Some next; used = used + line_long (reply_of v); after = kept v s; lines = sets out used (line_of (reply_of v)) })
    (stopped used out s)

-- .. whatever is read in a script of n bytes
abbrev pub turn_read : Read → ℕ → ℕ → List ℕ → Full → Turned Full
turn_read (Whole r k) n used out f = turn_by (step r.op f) k used out f
turn_read (Wrong k) n used out f = turn_by (perform step wrong f) k used out f
turn_read Cut n used out f = turn_by (perform step cut f) n used out f
turn_read End n used out f = stopped used out f

-- the record at a position of the script s
abbrev pub turn_of : List ℕ → ℕ → ℕ → List ℕ → Full → Turned Full
turn_of s at used out f = turn_read (read_at s at) (length s) used out f

-- what the code hands back, in these words
abbrev pub turn_told : {S : Type 0} → Option ℕ → S → Lines → Turned S
turn_told t left lines = record { next = t; used = lines.used; after = left; lines = lines.bytes.now }
