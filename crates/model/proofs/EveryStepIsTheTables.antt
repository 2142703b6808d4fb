-- EVERY STEP IS THE TABLE'S (demands 1 and 2): on a well-formed store an operation is refused, answered and done as the plain table says at the store's
-- room, refusals and answers included, and the store stays well-formed. MAKE asks nothing of the store. Assumes nothing.
use mathlib.Core.Path.{◌≡◌, refl, sym, ap, ◌∙◌}
use mathlib.Core.Bool.{Bool, true, false, not, ◌&&◌, false≢true}
use mathlib.Core.List.{List, [], ◌∷◌, ◌++◌}
use Prim.Native.Nat.{ℕ, ◌≤◌}
use lib.Dec.{ltb}
use lib.ListN.{length}
use borrow.Author.Tests.{ltb-false}
use Rattle.laws.proofs.Bools.{by-test, not-both, and_second, quiet-first}
use Rattle.laws.proofs.Parts.{over-length}
use Rattle.permutation.proofs.Maps.{swapped-length, turned-length}
use Rattle.table.specs.declared.Op.{Op}
use Rattle.table.specs.declared.Op.TheVariants.{Make, Set, SwapR, SwapC, Add, On, Off, Freeze, Resize, Get, Count, Words, TailOnes, Iter, ColOnes, Size}
use Rattle.table.specs.Refusals.{Check, ◌when◌, Verdict, refused, done, outcome}
use Rattle.table.specs.Step.{checks, after, answer}
use Rattle.table.specs.Room.{Held, kind, is_make, room_after, room_checks, all_checks, call, verdict, passes}
use Rattle.table.specs.Run.{kept}
use Rattle.model.specs.Store.{Full, table_of, held_of}
use Rattle.model.specs.WellFormed.{WellFormed}
use Rattle.model.specs.Check.{well_formed}
use Rattle.model.specs.Step.{changed, answered, full_after, step, inner}
use Rattle.model.proofs.SameRoom.{SameRoom, same-room, room-is}
use Rattle.model.proofs.SetCell.{set-ok, set-means, set_room}
use Rattle.model.proofs.AddMeans.{add_ok, add-means, add-room}
use Rattle.model.proofs.Swap.{swapr-ok, swapr-means, swapc-ok, swapc-means}
use Rattle.model.proofs.Switch.{on-ok, on-means, on_room, off-ok, off-means, off-room}
use Rattle.model.proofs.Freeze.{freeze-ok, freeze-means, freeze-room}
use Rattle.model.proofs.Resize.{resize-ok, resize-means, resize-room}
use Rattle.model.proofs.Make.{make-ok, make-means, make-room}
use Rattle.model.proofs.Passed.{can-make, can-set, can-swapr, can-swapc, can-on, can-freeze, can-resize, can-add}
use Rattle.model.proofs.Check.{check_sound, check-complete}

-- a verdict over stores, read as one over tables held in a room
abbrev pub as_held : Verdict Full → Verdict Held
as_held (refused k) = refused k
as_held (done f a) = done (held_of f) a

-- what an accepted operation leaves: a well-formed store that stands for the table's step, in the same room
pub record Good (o : Op) (f : Full) : Type 0 where
  pub ok : WellFormed (changed o f.store)
  pub held : held_of (full_after o f) ≡ record { room = room_after (kind o) (held_of f).room; table = after o (table_of f.store) }

-- an operation that keeps the room
good : (o : Op) (f : Full) → WellFormed (changed o f.store) → table_of (changed o f.store) ≡ after o (table_of f.store)
    → SameRoom f.store (changed o f.store) → length (answered o f.store f.answers) ≡ length f.answers
    → room_after (kind o) (held_of f).room ≡ (held_of f).room → Good o f
good o f ok means room answers same =
    record {
      ok = ok;
      held = λ i. record { room = (room-is f.store (changed o f.store) f.answers (answered o f.store f.answers) room answers ∙ sym same) i; table = means i };
    }

-- a list that fits its buffer
fits : (k : ℕ) (l : List ℕ) → not (ltb k (length l)) && true ≡ true → length l ≤ k
fits k l e = ltb-false k (length l) (quiet-first (ltb k (length l)) true e)

accepted : (o : Op) (f : Full) → (is_make (kind o) ≡ false → WellFormed f.store) → passes (checks o (table_of f.store)) ≡ true
    → passes (room_checks (held_of f).room o (table_of f.store)) ≡ true → Good o f
accepted (Make p) f v a b =
    let can = can-make f p a b in
    record {
      ok = make-ok p f.store can;
      held = λ i. record { room = make-room p f can i; table = make-means p f.store can (table_of f.store) i };
    }
accepted (Set p) f v a b =
    let c = can-set f (v refl) p a b in
    good (Set p) f (set-ok f.store (v refl) p c.row_in c.column-in c.sparse) (set-means f.store (v refl) p c.row_in c.column-in c.sparse)
    (set_room f.store (v refl) p c.row_in c.column-in c.sparse) refl refl
accepted (SwapR p) f v a b =
    let c = can-swapr f (v refl) p a in
    good (SwapR p) f (swapr-ok f.store (v refl) p c.0 c.1) (swapr-means f.store (v refl) p c.0 c.1)
    (record {
      slots = refl;
      entries = refl;
      counts = refl;
      row-homes = swapped-length f.store.rows.homes p.i p.j;
      row-logicals = turned-length f.store.rows.homes f.store.rows.logicals p.i p.j;
      column-homes = refl;
      column-logicals = refl;
      marks = refl;
      starts = refl;
      index = refl;
      words = refl;
    }) refl refl
accepted (SwapC p) f v a b =
    let c = can-swapc f (v refl) p a in
    good (SwapC p) f (swapc-ok f.store (v refl) p c.0 c.1) (swapc-means f.store (v refl) p c.0 c.1)
    (record {
      slots = refl;
      entries = refl;
      counts = refl;
      row-homes = refl;
      row-logicals = refl;
      column-homes = swapped-length f.store.columns.homes p.i p.j;
      column-logicals = turned-length f.store.columns.homes f.store.columns.logicals p.i p.j;
      marks = refl;
      starts = refl;
      index = refl;
      words = refl;
    }) refl refl
accepted (Add p) f v a b =
    let c = can-add f (v refl) p a b in
    good (Add p) f (add_ok f.store (v refl) p c) (add-means f.store (v refl) p c) (add-room f.store (v refl) p c) refl refl
accepted On f v a b =
    let c = can-on f (v refl) b in
    good On f (on-ok f.store (v refl) c) (on-means f.store (v refl)) (on_room f.store (v refl) c) refl refl
accepted Off f v a b = good Off f (off-ok f.store (v refl)) (off-means f.store (v refl)) (off-room f.store (v refl)) refl refl
accepted (Freeze p) f v a b =
    let c = can-freeze f (v refl) p a b in
    good (Freeze p) f (freeze-ok f.store (v refl) p.c c) (freeze-means f.store (v refl) p.c c p refl) (freeze-room f.store (v refl) p.c c) refl refl
accepted (Resize p) f v a b =
    let c = can-resize f (v refl) p a in
    good (Resize p) f (resize-ok f.store (v refl) p c) (resize-means f.store (v refl) p c) (resize-room f.store (v refl) p c) refl refl
accepted (Get p) f v a b = good (Get p) f (v refl) refl (same-room f.store) refl refl
accepted (Count p) f v a b = good (Count p) f (v refl) refl (same-room f.store) refl refl
accepted (Words p) f v a b = good (Words p) f (v refl) refl (same-room f.store) refl refl
accepted (TailOnes p) f v a b =
    good (TailOnes p) f (v refl) refl (same-room f.store) (over-length (answer (TailOnes p) (table_of f.store)) f.answers (fits (length f.answers) (answer (TailOnes p) (table_of f.store)) b)) refl
accepted (Iter p) f v a b =
    good (Iter p) f (v refl) refl (same-room f.store) (over-length (answer (Iter p) (table_of f.store)) f.answers (fits (length f.answers) (answer (Iter p) (table_of f.store)) b)) refl
accepted (ColOnes p) f v a b =
    good (ColOnes p) f (v refl) refl (same-room f.store) (over-length (answer (ColOnes p) (table_of f.store)) f.answers (fits (length f.answers) (answer (ColOnes p) (table_of f.store)) b)) refl
accepted Size f v a b = good Size f (v refl) refl (same-room f.store) refl refl

-- ---- through the checks
pub passes_append : (cs ds : List Check) → passes (cs ++ ds) ≡ true → (passes cs ≡ true) × (passes ds ≡ true)
passes_append [] ds e = (refl, e)
passes_append ((k when true) ∷ cs) ds e = absurd (false≢true e)
passes_append ((k when false) ∷ cs) ds e = passes_append cs ds e

-- the same checks over two states: alike if what stands behind them is alike where they pass
through : (cs : List Check) (f : Full) (h : Held) (a : List ℕ) → (passes cs ≡ true → held_of f ≡ h) → as_held (outcome cs (done f a)) ≡ outcome cs (done h a)
through [] f h a e = ap (λ x. done x a) (e refl)
through ((k when true) ∷ cs) f h a e = refl
through ((k when false) ∷ cs) f h a e = through cs f h a e

kept-ok : (P : Full → Type 0) (cs : List Check) (f g : Full) (a : List ℕ) → P f → (passes cs ≡ true → P g) → P (kept (outcome cs (done g a)) f)
kept-ok P [] f g a p q = q refl
kept-ok P ((k when true) ∷ cs) f g a p q = p
kept-ok P ((k when false) ∷ cs) f g a p q = kept-ok P cs f g a p q

-- ---- on a store that is known to be well-formed
pub inner-is-the-tables : (o : Op) (f : Full) → WellFormed f.store → as_held (inner o f) ≡ verdict o (held_of f)
unfolding inner
inner-is-the-tables o f v =
    through (checks o (table_of f.store) ++ room_checks (held_of f).room o (table_of f.store)) (full_after o f) _ (answer o (table_of f.store))
    (λ e. let b = passes_append (checks o (table_of f.store)) (room_checks (held_of f).room o (table_of f.store)) e in (accepted o f (λ n. v) b.0 b.1).held)

pub inner-keeps : (o : Op) (f : Full) → WellFormed f.store → WellFormed (kept (inner o f) f).store
unfolding inner
inner-keeps o f v =
    kept-ok (λ (g : Full). WellFormed g.store) (checks o (table_of f.store) ++ room_checks (held_of f).room o (table_of f.store)) f (full_after o f) (answer o (table_of f.store)) v
    (λ e. let b = passes_append (checks o (table_of f.store)) (room_checks (held_of f).room o (table_of f.store)) e in (accepted o f (λ n. v) b.0 b.1).ok)

-- ---- on any store: the call checks it
pub every-step-is-the-tables : (o : Op) (f : Full) → as_held (step o f) ≡ call (well_formed f.store) o (held_of f)
unfolding step
every-step-is-the-tables o f =
    through (all_checks (well_formed f.store) o (held_of f)) (full_after o f) _ (answer o (table_of f.store))
    (λ e. let b = past e in (accepted o f (sound e) b.0 b.1).held)
  where
    cs : List Check
    cs = checks o (table_of f.store) ++ room_checks (held_of f).room o (table_of f.store)

    past : passes (all_checks (well_formed f.store) o (held_of f)) ≡ true → (passes (checks o (table_of f.store)) ≡ true) × (passes (room_checks (held_of f).room o (table_of f.store)) ≡ true)
    past e = passes_append (checks o (table_of f.store)) (room_checks (held_of f).room o (table_of f.store))
        (and_second (not (not (well_formed f.store) && not (is_make (kind o)))) (passes (checks o (table_of f.store) ++ room_checks (held_of f).room o (table_of f.store))) e)

    sound : passes (all_checks (well_formed f.store) o (held_of f)) ≡ true → is_make (kind o) ≡ false → WellFormed f.store
    sound e n = check_sound f.store (by-test (well_formed f.store) (λ t. t) (λ w. not-both {b = true} refl (sym (rw (w, n) at e))))

-- on a well-formed store the check passes, and a call is the inner one
pub step-is-inner : (o : Op) (f : Full) → WellFormed f.store → step o f ≡ inner o f
unfolding step inner
step-is-inner o f v =
    ap (λ (b : Bool). outcome (all_checks b o (held_of f)) (done (full_after o f) (answer o (table_of f.store)))) (check-complete f.store v)

pub step_keeps : (o : Op) (f : Full) → WellFormed f.store → WellFormed (kept (step o f) f).store
step_keeps o f v = rw (step-is-inner o f v) (inner-keeps o f v)
