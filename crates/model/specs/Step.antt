-- One call on a store and its answer buffer: refused by the table's own checks at the store's room, or changed and answered. Assumes nothing.
use Rattle.std.specs.Prelude.{true, List, ℕ}
use Rattle.laws.specs.Parts.{over}
use Rattle.table.specs.declared.Op.{Op}
use Rattle.table.specs.declared.Op.TheVariants.{Make, Set, SwapR, SwapC, Add, On, Off, Freeze, Resize, Get, Count, Words, TailOnes, Iter, ColOnes, Size}
use Rattle.table.specs.Refusals.{Verdict, done, outcome}
use Rattle.table.specs.Step.{answer}
use Rattle.table.specs.Room.{all_checks}
use Rattle.table.specs.Run.{Reply, reply_of, kept}
use Rattle.model.specs.Store.{Store, Full, table_of, held_of}
use Rattle.model.specs.Check.{well_formed}
use Rattle.model.specs.Change.{made, set_cell, swap_rows, swap_columns, add_rows, index_on, index_off, freeze_column, resize}

-- the store afterwards
abbrev pub changed : Op → Store → Store
changed (Make p) s = made p s
changed (Set p) s = set_cell p s
changed (SwapR p) s = swap_rows p s
changed (SwapC p) s = swap_columns p s
changed (Add p) s = add_rows p s
changed On s = index_on s
changed Off s = index_off s
changed (Freeze p) s = freeze_column p.c s
changed (Resize p) s = resize p s
changed (Get p) s = s
changed (Count p) s = s
changed (Words p) s = s
changed (TailOnes p) s = s
changed (Iter p) s = s
changed (ColOnes p) s = s
changed Size s = s

-- "Lists go to the first places of an answer buffer, the others keep their numbers."
abbrev pub answered : Op → Store → List ℕ → List ℕ
answered (Make p) s a = a
answered (Set p) s a = a
answered (SwapR p) s a = a
answered (SwapC p) s a = a
answered (Add p) s a = a
answered On s a = a
answered Off s a = a
answered (Freeze p) s a = a
answered (Resize p) s a = a
answered (Get p) s a = a
answered (Count p) s a = a
answered (Words p) s a = a
answered (TailOnes p) s a = over (answer (TailOnes p) (table_of s)) a
answered (Iter p) s a = over (answer (Iter p) (table_of s)) a
answered (ColOnes p) s a = over (answer (ColOnes p) (table_of s)) a
answered Size s a = a

abbrev pub full_after : Op → Full → Full
full_after o f = record { store = changed o f.store; answers = answered o f.store f.answers }

-- one call: it checks the store itself
unfoldable pub step : Op → Full → Verdict Full
step o f = outcome (all_checks (well_formed f.store) o (held_of f)) (done (full_after o f) (answer o (table_of f.store)))

-- one call on a store that is known to be well-formed
unfoldable pub inner : Op → Full → Verdict Full
inner o f = outcome (all_checks true o (held_of f)) (done (full_after o f) (answer o (table_of f.store)))

-- what a caller sees of it: the reply, the store and the answer buffer
pub record Result : Type 0 where
  pub reply : Reply
  pub after : Full

abbrev pub result_of : Full → Verdict Full → Result
result_of f v = record { reply = reply_of v; after = kept v f }
