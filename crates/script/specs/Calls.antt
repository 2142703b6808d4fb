-- The records of a script as single calls, one after the other: what a run comes to where every line fits. Assumes nothing.
use Rattle.std.specs.Prelude.{◌≡◌, false, List, [], ◌∷◌}
use Rattle.table.specs.declared.Op.{Op}
use Rattle.table.specs.Refusals.{Verdict}
use Rattle.table.specs.Room.{kind, is_make}
use Rattle.table.specs.Run.{Reply, reply_of, kept, Record, does, wrong, cut, perform}

-- the replies, and the state that they leave; f is what an operation comes to
unfoldable pub replies_to : {S : Type 0} → (Op → S → Verdict S) → List Record → S → List Reply
replies_to f [] s = []
replies_to f (r ∷ rs) s = reply_of (perform f r s) ∷ replies_to f rs (kept (perform f r s) s)

unfoldable pub final_after : {S : Type 0} → (Op → S → Verdict S) → List Record → S → S
final_after f [] s = s
final_after f (r ∷ rs) s = final_after f rs (kept (perform f r s) s)

-- the records of operations alone
abbrev pub each : List Op → List Record
each [] = []
each (o ∷ os) = does o ∷ each os

-- "no further MAKE among them"
abbrev pub NoMakeIn : List Record → Type 0
NoMakeIn [] = Unit {0}
NoMakeIn (does o ∷ rs) = (is_make (kind o) ≡ false) × NoMakeIn rs
NoMakeIn (wrong ∷ rs) = NoMakeIn rs
NoMakeIn (cut ∷ rs) = NoMakeIn rs
