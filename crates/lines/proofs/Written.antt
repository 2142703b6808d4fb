-- Stretches written one right after the other, as the functions that write say it. Assumes nothing.
use mathlib.Core.Path.{◌≡◌, refl, ap, ◌∙◌}
use mathlib.Core.List.{List, [], ◌++◌}
use Prim.Native.Nat.{ℕ}
use native.Mathlib.Omega.{arith}
use lib.ListN.{length, length-append}
use lib.Seq.{length-sets}
use Rattle.lines.specs.declared.Lines.{Lines}
use Rattle.lines.specs.Wrote.{Wrote}
use Rattle.lines.proofs.Writing.{then-put}

pub nothing-wrote : (a : Lines) → Wrote a a []
nothing-wrote a = record { used = omega arith; bytes = refl; same = refl }

-- what is written is not longer than what was lent
pub long-after : {a b : Lines} {t : List ℕ} → Wrote a b t → length b.bytes.now ≡ length a.bytes.now
long-after {a} {b} {t} w = ap length w.bytes ∙ length-sets a.bytes.now a.used t

-- s, and t right after it, are s ++ t
pub both-wrote : {a b c : Lines} {s t : List ℕ} → Wrote a b s → Wrote b c t → Wrote a c (s ++ t)
both-wrote {a} {b} {c} {s} {t} v w = record {
  used = omega (arith, v.used, w.used, length-append s t);
  bytes = w.bytes ∙ then-put a.bytes.now b.bytes.now a.used b.used s t v.bytes v.used;
  same = w.same ∙ v.same;
}
