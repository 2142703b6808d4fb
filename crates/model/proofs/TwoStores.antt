-- DEMAND 3 FOR TWO STORES, in the user's sentences. "Make two stores of the same height, width and tail, both accepted, the second with at least as many
-- slots and lent at least as much of every other room. Give both the same operations after making, no further MAKE among them, always with the head last
-- handed back and over the buffers lent at making, nobody else writing to either; the answer buffer counts as room." Assumes nothing.
use mathlib.Core.Path.{◌≡◌, refl, sym, ap, ◌∙◌}
use mathlib.Core.Bool.{Bool, false, ◌&&◌}
use mathlib.Core.List.{List, [], ◌∷◌, ◌++◌}
use Prim.Native.Nat.{ℕ}
use lib.ListN.{take}
use Rattle.table.specs.declared.Op.{Op}
use Rattle.table.specs.Refusals.{Verdict, refused, done}
use Rattle.table.specs.Table.{Table}
use Rattle.table.specs.Step as plain
use Rattle.table.specs.Room.{Held, kind, is_make, verdict, call, over, passes}
use Rattle.table.specs.Run.{Reply, nay, reply_of, kept, replies, final, accepted}
use Rattle.table.proofs.Checks.{for_room}
use Rattle.table.proofs.Plainly.{NoMake, held}
use Rattle.table.proofs.RoomNeverChangesAnAnswer.{Within, until_room, room-never-changes-an-answer}
use Rattle.table.proofs.RefusesExactly.{refuses-exactly}
use Rattle.table.proofs.Needs.{Fits}
use Rattle.table.proofs.Struck.{struck}
use Rattle.model.specs.Store.{Full, table_of, held_of}
use Rattle.model.specs.WellFormed.{WellFormed}
use Rattle.model.specs.Step.{step}
use Rattle.model.proofs.Check.{check-complete}
use Rattle.model.proofs.EveryStepIsTheTables.{as_held, every-step-is-the-tables, step_keeps}

-- ---- a store answers as its table does in its room
module _ (o : Op) (f : Full) (v : WellFormed f.store) where
  as-table : as_held (step o f) ≡ verdict o (held_of f)
  as-table = every-step-is-the-tables o f ∙ ap (λ (b : Bool). call b o (held_of f)) (check-complete f.store v)

  reply-as : (u : Verdict Full) → reply_of u ≡ reply_of (as_held u)
  reply-as (refused k) = refl
  reply-as (done g a) = refl

  kept-as : (u : Verdict Full) → held_of (kept u f) ≡ kept (as_held u) (held_of f)
  kept-as (refused k) = refl
  kept-as (done g a) = refl

  pub same-reply : reply_of (step o f) ≡ reply_of (verdict o (held_of f))
  same-reply = reply-as (step o f) ∙ ap reply_of as-table

  pub same-state : held_of (kept (step o f) f) ≡ kept (verdict o (held_of f)) (held_of f)
  same-state = kept-as (step o f) ∙ ap (λ (u : Verdict Held). kept u (held_of f)) as-table

pub replies-are-the-tables : (os : List Op) (f : Full) → WellFormed f.store → replies step os f ≡ replies verdict os (held_of f)
unfolding replies
replies-are-the-tables [] f v = refl
replies-are-the-tables (o ∷ os) f v =
    rw (same-reply o f v, ← same-state o f v) (ap (λ l. reply_of (verdict o (held_of f)) ∷ l) (replies-are-the-tables os (kept (step o f) f) (step_keeps o f v)))

pub final-is-the-tables : (os : List Op) (f : Full) → WellFormed f.store → held_of (final step os f) ≡ final verdict os (held_of f)
unfolding final
final-is-the-tables [] f v = refl
final-is-the-tables (o ∷ os) f v = final-is-the-tables os (kept (step o f) f) (step_keeps o f v) ∙ ap (final verdict os) (same-state o f v)

-- every store keeps well-formed under any list
pub final-keeps : (os : List Op) (f : Full) → WellFormed f.store → WellFormed (final step os f).store
unfolding final
final-keeps [] f v = v
final-keeps (o ∷ os) f v = final-keeps os (kept (step o f) f) (step_keeps o f v)

-- "at least as many slots and lent at least as much of every other room"
abbrev pub Smaller : Full → Full → Type 0
Smaller f g = Within (held_of f).room (held_of g).room

module _ (f g : Full) (vf : WellFormed f.store) (vg : WellFormed g.store) (small : Smaller f g) (alike : table_of f.store ≡ table_of g.store) where
  -- "Up to the first room refusal in the smaller store, both answer alike, and as the plain table does."
  pub room-never-changes-a-stores-answer : (os : List Op) → NoMake os
      → let mine : List Reply = replies step os f in
      let theirs : List Reply = replies step os g in
      let tables : List Reply = replies plain.step os (table_of f.store) in
      let k : ℕ = until_room mine in
      (take k mine ≡ take k theirs) × (take k mine ≡ take k tables)
  room-never-changes-a-stores-answer os n =
      rw (
        replies-are-the-tables os f vf,
        replies-are-the-tables os g vg ∙ ap (λ (t : Table). replies verdict os (held (held_of g).room t)) (sym alike),
      ) (room-never-changes-an-answer (held_of f).room (held_of g).room small os n (table_of f.store))

-- "The smaller refuses for room exactly when the table of the operations it has accepted so far would, after this one, need more .. than it has, or a list
-- is longer than its answer buffer, and no earlier check refuses."
pub a-store-refuses-exactly : (f : Full) → WellFormed f.store → Fits (held_of f).room (table_of f.store) → (xs : List Op) → NoMake xs → (o : Op) → is_make (kind o) ≡ false
    → let t : Table = final plain.step (accepted verdict xs (held_of f)) (table_of f.store) in
    for_room (reply_of (step o (final step xs f))) ≡ passes (plain.checks o t) && over (held_of f).room o t
a-store-refuses-exactly f v fits xs n o m =
    ap for_room (same-reply o (final step xs f) (final-keeps xs f v) ∙ ap (λ (h : Held). reply_of (verdict o h)) (final-is-the-tables xs f v))
    ∙ refuses-exactly (held_of f).room (table_of f.store) fits xs n o m

-- "A refused operation struck from the list changes no other answer."
pub struck-from-a-store : (xs : List Op) (o : Op) (ys : List Op) (f : Full) (k : ℕ) → step o (final step xs f) ≡ refused k
    → (replies step (xs ++ (o ∷ ys)) f ≡ replies step xs f ++ (nay k ∷ replies step ys (final step xs f)))
    × (replies step (xs ++ ys) f ≡ replies step xs f ++ replies step ys (final step xs f))
struck-from-a-store xs o ys f k e = struck step xs o ys f k e
