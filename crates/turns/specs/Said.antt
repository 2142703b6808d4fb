-- What one call tells, as the reply that its line writes. Assumes nothing.
use Rattle.std.specs.Prelude.{List, [], ◌∷◌, ℕ, ◌+◌, ◌*◌, ◌≤◌, length, Result, Ok, Err}
use Rattle.laws.specs.Parts.{stretch}
use Rattle.table.specs.Run.{Reply, ok, nay}
use Rattle.lines.specs.declared.Lines.{Lines}
use Rattle.lines.specs.Line.{line_of, line_long}
use Rattle.lines.specs.Wrote.{HasRoom}
use Rattle.store_head.specs.declared.refusal.Refusal.{Refusal}
use Rattle.store_head.specs.Refused.{number_of}
use Rattle.operations.specs.declared.Told.{Told}
use Rattle.operations.specs.declared.Told.TheVariants as told
use Rattle.operations.specs.Applied as form

-- the reply, read from the answer buffer and, from place `at` on, from the tail words
abbrev pub said : Result Told Refusal → ℕ → List ℕ → List ℕ → Reply
said (Ok told.Done) at ws answers = ok []
said (Ok (told.Number x)) at ws answers = ok (x ∷ [])
said (Ok (told.Sizes p)) at ws answers = ok (p.h ∷ p.w ∷ p.n ∷ [])
said (Ok (told.List c)) at ws answers = ok (stretch answers 0 c)
said (Ok (told.Words c)) at ws answers = ok (stretch ws at c)
said (Err k) at ws answers = nay (number_of k)

-- how many answer places it reads, and how many tail words up to the last that it reads
abbrev pub places_read : Result Told Refusal → ℕ
places_read (Ok told.Done) = 0
places_read (Ok (told.Number x)) = 0
places_read (Ok (told.Sizes p)) = 0
places_read (Ok (told.List c)) = c
places_read (Ok (told.Words c)) = 0
places_read (Err k) = 0

abbrev pub words_read : Result Told Refusal → ℕ → ℕ
words_read (Ok told.Done) at = 0
words_read (Ok (told.Number x)) at = 0
words_read (Ok (told.Sizes p)) at = 0
words_read (Ok (told.List c)) at = 0
words_read (Ok (told.Words c)) at = at + c
words_read (Err k) at = 0

-- what it reads is there, and its line has room
pub record CanPut (t : Result Told Refusal) (at : ℕ) (ws answers : List ℕ) (lines : Lines) : Type 0 where
  pub places : places_read t ≤ length answers
  pub words : words_read t at ≤ length ws
  pub room : HasRoom lines (line_of (said t at ws answers))

-- how long the line is, of an answer of that length or of the refusal
abbrev pub long_by : Result ℕ Refusal → ℕ
long_by (Ok n) = n
long_by (Err k) = line_long (nay (number_of k))

-- no operation's line is longer: `ok` or a refusal of two digits, a number of five, three of them, up to `places` of them, or 1,024 words of twenty
abbrev pub most_long : form.Form → ℕ → ℕ
most_long form.done places = 6
most_long form.number places = 9
most_long form.sizes places = 21
most_long form.list places = 6 + places * 6
most_long form.words places = 21507
