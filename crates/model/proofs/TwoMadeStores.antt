-- DEMAND 3, from making on: two stores made with the same height, width and tail, the second with at least as much of every room. Assumes nothing.
use mathlib.Core.Path.{◌≡◌, refl, sym, ap, ◌∙◌, subst}
use mathlib.Core.Bool.{true, false, not, ◌&&◌}
use mathlib.Core.List.{List, [], ◌++◌}
use Prim.Native.Nat.{ℕ, zero, suc, ◌≤◌}
use native.Mathlib.Omega.{arith}
use lib.ListN.{length, take}
use Rattle.laws.specs.Plain.{select}
use Rattle.laws.proofs.Bools.{and_second}
use Rattle.laws.proofs.Sums.{most-le}
use Rattle.table.specs.declared.Op.{Op}
use Rattle.table.specs.declared.Op.TheVariants.{Make}
use Rattle.table.specs.declared.Sizes.{Sizes}
use Rattle.table.specs.Refusals.{Verdict, done}
use Rattle.table.specs.Table.{Table, edge, row_count}
use Rattle.table.specs.Step as plain
use Rattle.table.specs.Room.{Held, room_checks, all_checks, passes}
use Rattle.table.specs.Run.{Reply, replies, empty}
use Rattle.table.proofs.Checks.{went}
use Rattle.table.proofs.Plainly.{NoMake}
use Rattle.table.proofs.RoomNeverChangesAnAnswer.{Within, until_room}
use Rattle.table.proofs.Needs.{Fits}
use Rattle.model.specs.Store.{Full, table_of, lent_of, held_of}
use Rattle.model.specs.WellFormed.{WellFormed}
use Rattle.model.specs.Check.{well_formed}
use Rattle.model.specs.Step.{full_after, step}
use Rattle.model.proofs.Make.{CanMake, make-ok, make-means, make-room}
use Rattle.model.proofs.Passed.{can-make}
use Rattle.model.proofs.EveryStepIsTheTables.{passes_append}
use Rattle.model.proofs.TwoStores.{room-never-changes-a-stores-answer}

-- the table just after making
abbrev pub fresh : Sizes → Table
fresh p = plain.after (Make p) empty

no_ones : (k a : ℕ) → length (select k a (λ c. false)) ≡ 0
unfolding select
no_ones zero a = refl
no_ones (suc k) a = no_ones k (suc a)

-- ---- what an accepted MAKE leaves
module _ (p : Sizes) (f u : Full) (a : List ℕ) (e : step (Make p) f ≡ done u a) where
  through : (passes (all_checks (well_formed f.store) (Make p) (held_of f)) ≡ true) × (◌≡◌ {A = Verdict Full} (done (full_after (Make p) f) []) (done u a))
  unfolding step
  through = went (all_checks (well_formed f.store) (Make p) (held_of f)) (done (full_after (Make p) f) []) u a e

  can : CanMake p f.store
  can =
      let b = passes_append (plain.checks (Make p) (table_of f.store)) (room_checks (held_of f).room (Make p) (table_of f.store))
      (and_second (not (not (well_formed f.store) && not true)) (passes (plain.checks (Make p) (table_of f.store) ++ room_checks (held_of f).room (Make p) (table_of f.store))) through.0) in
      can-make f p b.0 b.1

  left : full_after (Make p) f ≡ u
  left = cc through.1

  pub made_ok : WellFormed u.store
  made_ok = subst (λ (g : Full). WellFormed g.store) left (make-ok p f.store can)

  pub made_held : held_of u ≡ record { room = record { lent = lent_of f; slots = p.slots }; table = fresh p }
  made_held = ap held_of (sym left) ∙ (λ i. record { room = make-room p f can i; table = make-means p f.store can empty i })

  -- it needs no slots and no entries, and its words were asked for
  pub made-fits : Fits (held_of u).room (table_of u.store)
  made-fits = subst (λ (h : Held). Fits h.room h.table) (sym made_held)
      (record {
        slots = most-le p.h p.slots (row_count (fresh p)) (λ r l. omega (arith, no_ones (edge (fresh p)) 0));
        words = can.words;
        entries = omega arith;
      })

-- ---- two of them
module _ (p q : Sizes) (f g u w : Full) (a b : List ℕ) (mf : step (Make p) f ≡ done u a) (mg : step (Make q) g ≡ done w b)
    (height : p.h ≡ q.h) (width : p.w ≡ q.w) (tail : p.n ≡ q.n) (slots : p.slots ≤ q.slots) (room : Within (held_of u).room (held_of w).room) where
  same : fresh p ≡ fresh q
  same i = plain.after (Make (record { h = height i; w = width i; n = tail i; slots = 0 })) empty

  pub two-made-stores : (os : List Op) → NoMake os
      → let mine : List Reply = replies step os u in
      let theirs : List Reply = replies step os w in
      let tables : List Reply = replies plain.step os (fresh p) in
      let k : ℕ = until_room mine in
      (take k mine ≡ take k theirs) × (take k mine ≡ take k tables)
  two-made-stores os n =
      subst (λ (t : Table). let mine : List Reply = replies step os u in
      let theirs : List Reply = replies step os w in
      let tables : List Reply = replies plain.step os t in
      let k : ℕ = until_room mine in
      (take k mine ≡ take k theirs) × (take k mine ≡ take k tables))
      (ap (λ (h : Held). h.table) (made_held p f u a mf))
      (room-never-changes-a-stores-answer u w (made_ok p f u a mf) (made_ok q g w b mg) room
      (ap (λ (h : Held). h.table) (made_held p f u a mf) ∙ same ∙ sym (ap (λ (h : Held). h.table) (made_held q g w b mg))) os n)
