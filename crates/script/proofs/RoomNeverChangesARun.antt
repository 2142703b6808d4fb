-- DEMAND 3 FOR RUNS: "In demand 3 a run counts as its single calls; where the line bytes make it stop, and the count of record bytes, stay outside it."
-- Two stores that hold the same table, the second with at least as much of every room, run the same records with whatever line bytes: as far as both
-- have gone, and up to the first room refusal in the smaller store, both answer alike, and as the plain table does. Assumes nothing.
use mathlib.Core.Path.{◌≡◌, refl, sym, ap, ◌∙◌}
use mathlib.Core.List.{List, [], ◌∷◌}
use Prim.Native.Nat.{ℕ, zero, suc, ◌≤◌}
use native.Mathlib.Omega.{arith}
use lib.ListN.{length, take}
use Rattle.laws.proofs.Bools.{by-test}
use Rattle.table.specs.Table.{Table}
use Rattle.table.specs.Step as plain
use Rattle.table.specs.Room.{Room, verdict}
use Rattle.table.specs.Run.{Reply, reply_of, kept, Record, does, wrong, cut, perform, runs}
use Rattle.table.proofs.Checks.{for_room}
use Rattle.table.proofs.Plainly.{held, within, reply-within, kept-within}
use Rattle.table.proofs.RoomNeverChangesAnAnswer.{Within, until_room, alike}
use Rattle.model.specs.Store.{Full, table_of, held_of}
use Rattle.model.specs.WellFormed.{WellFormed}
use Rattle.model.specs.Step.{step}
use Rattle.model.proofs.EveryStepIsTheTables.{step_keeps}
use Rattle.model.proofs.TwoStores.{Smaller, same-reply, same-state}
use Rattle.lines.specs.Line.{line_long}
use Rattle.script.specs.Calls.{replies_to, NoMakeIn}
use Rattle.script.proofs.RunIsItsSingleCalls.{run-is-its-single-calls}

-- ---- a store answers records as its table does in its room
records-are-the-tables : (rs : List Record) (f : Full) → WellFormed f.store → replies_to step rs f ≡ replies_to verdict rs (held_of f)
unfolding replies_to
records-are-the-tables [] f v = refl
records-are-the-tables (does o ∷ rs) f v =
    rw (same-reply o f v, ← same-state o f v) (ap (λ (l : List Reply). reply_of (verdict o (held_of f)) ∷ l) (records-are-the-tables rs (kept (step o f) f) (step_keeps o f v)))
records-are-the-tables (wrong ∷ rs) f v = ap (λ (l : List Reply). reply_of (perform step wrong f) ∷ l) (records-are-the-tables rs f v)
records-are-the-tables (cut ∷ rs) f v = ap (λ (l : List Reply). reply_of (perform step cut f) ∷ l) (records-are-the-tables rs f v)

-- ---- without MAKE the room stays, so that only tables matter
records-within : (m : Room) (rs : List Record) (t : Table) → NoMakeIn rs → replies_to verdict rs (held m t) ≡ replies_to (within m) rs t
unfolding replies_to
records-within m [] t n = refl
records-within m (does o ∷ rs) t n =
    rw (reply-within m o t n.0, kept-within m o t n.0) (ap (λ (l : List Reply). reply_of (within m o t) ∷ l) (records-within m rs (kept (within m o t) t) n.1))
records-within m (wrong ∷ rs) t n = ap (λ (l : List Reply). reply_of (perform (within m) wrong t) ∷ l) (records-within m rs t n)
records-within m (cut ∷ rs) t n = ap (λ (l : List Reply). reply_of (perform (within m) cut t) ∷ l) (records-within m rs t n)

module _ (m m' : Room) (le : Within m m') where
  -- up to the smaller's first room refusal, the larger room and the plain table say the same
  over-records : (rs : List Record) (t : Table) → NoMakeIn rs
      → let mine : List Reply = replies_to (within m) rs t in
      (take (until_room mine) mine ≡ take (until_room mine) (replies_to (within m') rs t)) × (take (until_room mine) mine ≡ take (until_room mine) (replies_to plain.step rs t))
  unfolding replies_to
  over-records [] t n = (refl, refl)
  over-records (does o ∷ rs) t n = by-test (for_room (reply_of (within m o t)))
      (λ e. rw e (refl, refl))
      (λ e. let a = alike m m' le o t n.0 e in
      let ih = over-records rs (kept (within m o t) t) n.1 in
      rw (e, ← a.0, ← a.1) (ap (λ (l : List Reply). reply_of (within m o t) ∷ l) ih.0, ap (λ (l : List Reply). reply_of (within m o t) ∷ l) ih.1))
  over-records (wrong ∷ rs) t n =
      let ih = over-records rs t n in
      (ap (λ (l : List Reply). reply_of (perform (within m) wrong t) ∷ l) ih.0, ap (λ (l : List Reply). reply_of (perform (within m) wrong t) ∷ l) ih.1)
  over-records (cut ∷ rs) t n =
      let ih = over-records rs t n in
      (ap (λ (l : List Reply). reply_of (perform (within m) cut t) ∷ l) ih.0, ap (λ (l : List Reply). reply_of (perform (within m) cut t) ∷ l) ih.1)

-- ---- the first replies of a longer list
take-fewer : (k n : ℕ) (l : List Reply) → k ≤ n → take k (take n l) ≡ take k l
take-fewer zero n [] h = refl
take-fewer zero n (r ∷ l) h = refl
take-fewer (suc k) zero l h = absurd (omega arith)
take-fewer (suc k) (suc n) [] h = refl
take-fewer (suc k) (suc n) (r ∷ l) h = ap (λ (m : List Reply). r ∷ m) (take-fewer k n l (omega arith))

until-length : (l : List Reply) → until_room l ≤ length l
until-length [] = omega arith
until-length (r ∷ l) = by-test (for_room r) (λ e. rw e (omega arith)) (λ e. rw e (omega (arith, until-length l)))

until-take : (n : ℕ) (l : List Reply) → until_room (take n l) ≤ until_room l
until-take zero [] = omega arith
until-take zero (r ∷ l) = omega arith
until-take (suc n) [] = omega arith
until-take (suc n) (r ∷ l) = by-test (for_room r) (λ e. rw e (omega arith)) (λ e. rw e (omega (arith, until-take n l)))

-- k replies of a run that has gone so far are the first k of all
of-all : (k n : ℕ) (l m : List Reply) → l ≡ take n m → k ≤ n → take k l ≡ take k m
of-all k n l m e h = ap (take k) e ∙ take-fewer k n m h

module _ (f g : Full) (vf : WellFormed f.store) (vg : WellFormed g.store) (small : Smaller f g) (same : table_of f.store ≡ table_of g.store) where
  pub room-never-changes-a-run : (rs : List Record) → NoMakeIn rs → (a b k : ℕ)
      → let mine : List Reply = (runs step line_long a rs f).said in
      let theirs : List Reply = (runs step line_long b rs g).said in
      k ≤ until_room mine → k ≤ length theirs
      → (take k mine ≡ take k theirs) × (take k mine ≡ take k (replies_to plain.step rs (table_of f.store)))
  room-never-changes-a-run rs n a b k p q = (first ∙ cut-to M T both.0 ∙ sym second, first ∙ cut-to M (replies_to plain.step rs (table_of f.store)) both.1)
    where
      mine : List Reply
      mine = (runs step line_long a rs f).said

      theirs : List Reply
      theirs = (runs step line_long b rs g).said

      M : List Reply
      M = replies_to (within (held_of f).room) rs (table_of f.store)

      T : List Reply
      T = replies_to (within (held_of g).room) rs (table_of f.store)

      mine-is : replies_to step rs f ≡ M
      mine-is = records-are-the-tables rs f vf ∙ records-within (held_of f).room rs (table_of f.store) n

      theirs-is : replies_to step rs g ≡ T
      theirs-is = records-are-the-tables rs g vg ∙ records-within (held_of g).room rs (table_of g.store) n ∙ ap (replies_to (within (held_of g).room) rs) (sym same)

      begun : mine ≡ take (length mine) M
      begun = (run-is-its-single-calls step line_long a rs f).0 ∙ ap (take (length mine)) mine-is

      first : take k mine ≡ take k M
      first = of-all k (length mine) mine M begun (omega (arith, p, until-length mine))

      second : take k theirs ≡ take k T
      second = of-all k (length theirs) theirs T ((run-is-its-single-calls step line_long b rs g).0 ∙ ap (take (length theirs)) theirs-is) q

      low : k ≤ until_room M
      low = omega (arith, p, ap until_room begun, until-take (length mine) M)

      both : (take (until_room M) M ≡ take (until_room M) T) × (take (until_room M) M ≡ take (until_room M) (replies_to plain.step rs (table_of f.store)))
      both = over-records (held_of f).room (held_of g).room small rs (table_of f.store) n

      cut-to : (l m : List Reply) → take (until_room M) l ≡ take (until_room M) m → take k l ≡ take k m
      cut-to l m e = sym (take-fewer k (until_room M) l low) ∙ ap (take k) e ∙ take-fewer k (until_room M) m low
