-- What comes to a verdict, told over the lent lines: its line is written where it fits, and else all is as it was. Assumes nothing.
use mathlib.Core.Path.{◌≡◌}
use mathlib.Core.Bool.{true, false}
use Prim.Native.Nat.{ℕ, ◌-◌}
use lib.Dec.{leb}
use lib.ListN.{length}
use Rattle.std.specs.Prelude.{Some, None}
use Rattle.table.specs.Refusals.{Verdict}
use Rattle.table.specs.Run.{reply_of, kept}
use Rattle.lines.specs.declared.Lines.{Lines}
use Rattle.lines.specs.Line.{line_of, line_long}
use Rattle.lines.specs.Wrote.{Wrote}
use Rattle.turns.specs.Turned.{turn_by, turn_told}

-- ---- what comes to v, told over the lines a
module _ {S : Type 0} (v : Verdict S) (next : ℕ) (s : S) (a : Lines) where
  -- its line fits: it is written, and the state is what v leaves
  pub wrote : leb (line_long (reply_of v)) (length a.bytes.now - a.used) ≡ true → (b : Lines) → Wrote a b (line_of (reply_of v)) → (u : S) → u ≡ kept v s
      → turn_told (Some next) u b ≡ turn_by v next a.used a.bytes.now s
  wrote fits b w u e = rw fits (λ i. record { next = Some next; used = w.used i; after = e i; lines = w.bytes i })

  -- it does not: all is as it was
  pub stays : leb (line_long (reply_of v)) (length a.bytes.now - a.used) ≡ false → turn_told None s a ≡ turn_by v next a.used a.bytes.now s
  stays short = rw short
