-- A run record by record: each turn is the first of the fold's, and what follows is the run from the next record on. Assumes nothing.
use mathlib.Core.Path.{◌≡◌, refl, sym, ap, ◌∙◌}
use mathlib.Core.Bool.{true, false}
use mathlib.Core.List.{List, [], ◌∷◌, ◌++◌}
use Prim.Native.Nat.{ℕ, zero, suc, ◌+◌, ◌-◌, ◌≤◌, ◌<◌}
use native.Mathlib.Nat.{add-zero}
use native.Mathlib.Omega.{arith}
use lib.Dec.{leb}
use lib.ListN.{length, length-append}
use lib.Seq.{sets, length-sets}
use Rattle.std.specs.Prelude.{Option, Some, None}
use Rattle.laws.proofs.Bools.{by-test}
use Rattle.table.specs.Refusals.{Verdict}
use Rattle.table.specs.Run.{Reply, ok, nay, reply_of, kept, runs, run, perform, Record, does, wrong, cut}
use Rattle.table.specs.Run as table
use Rattle.model.specs.Store.{Full}
use Rattle.model.specs.WellFormed.{WellFormed}
use Rattle.model.specs.Step.{step}
use Rattle.model.proofs.EveryStepIsTheTables.{step_keeps}
use Rattle.records.specs.declared.Record as records
use Rattle.records.specs.declared.Read.{Read}
use Rattle.records.specs.declared.Read.TheVariants.{Whole, Wrong, Cut, End}
use Rattle.records.specs.Reading.{read_at, Past}
use Rattle.records.specs.Records.{records_at}
use Rattle.records.proofs.Cases.{at-end, past}
use Rattle.records.proofs.Scripts.{onward}
use Rattle.lines.specs.Line.{line_of, line_long}
use Rattle.lines.proofs.Writing.{sets-both}
use Rattle.turns.specs.Turned.{Turned, turn_by, turn_read, turn_of}
use Rattle.script.specs.Left.{lines_of, end_of, bytes_of, Left, stands, left_at, resumed}

-- ---- a record stands at a position, and the next one starts at k
pub record Stands (s : List ℕ) (at : ℕ) (x : Record) (k : ℕ) : Type 0 where
  pub first : records_at s at ≡ x ∷ records_at s k
  pub ends : (m : ℕ) → bytes_of (suc m) s at ≡ bytes_of m s k

-- past the last byte none stands
module _ (s : List ℕ) where
  none-past : records_at s (length s) ≡ []
  none-past = onward s (length s) End (at-end s (length s) (omega arith))

  bytes_past : (m : ℕ) → bytes_of m s (length s) ≡ length s
  unfolding bytes_of
  bytes_past zero = refl
  bytes_past (suc m) = ap (λ (x : Read). end_of x (length s) (length s) (bytes_of m s)) (at-end s (length s) (omega arith))

module _ (s : List ℕ) (at : ℕ) where
  bytes-at : (m : ℕ) (r : Read) → read_at s at ≡ r → bytes_of (suc m) s at ≡ end_of r (length s) at (bytes_of m s)
  unfolding bytes_of
  bytes-at m r e = ap (λ (x : Read). end_of x (length s) at (bytes_of m s)) e

  whole-stands : (r : records.Record) (k : ℕ) → read_at s at ≡ Whole r k → Stands s at (does r.op) k
  whole-stands r k e = record { first = onward s at (Whole r k) e; ends = λ m. bytes-at m (Whole r k) e }

  wrong-stands : (k : ℕ) → read_at s at ≡ Wrong k → Stands s at wrong k
  wrong-stands k e = record { first = onward s at (Wrong k) e; ends = λ m. bytes-at m (Wrong k) e }

  cut_stands : read_at s at ≡ Cut → Stands s at cut (length s)
  cut_stands e =
      record {
        first = onward s at Cut e ∙ ap (λ (l : List Record). cut ∷ l) (sym (none-past s));
        ends = λ m. bytes-at m Cut e ∙ sym (bytes_past s m);
      }

-- ---- a reply's line is written, and then those of the replies after it
lines_more : (r : Reply) (l : List Reply) → lines_of (r ∷ l) ≡ line_of r ++ lines_of l
unfolding lines_of
lines_more r l = refl

lines_none : lines_of [] ≡ []
unfolding lines_of
lines_none = refl

module _ (s : List ℕ) (at used : ℕ) (out : List ℕ) where
  behind : (r : Reply) (k : ℕ) → ((m : ℕ) → bytes_of (suc m) s at ≡ bytes_of m s k) → (y : table.Ran Full)
      → left_at s at used out (table.more r y) ≡ left_at s k (used + line_long r) (sets out used (line_of r)) y
  behind r k ends y i = stands (ends (length y.said) i) (placed i) y.state (written i)
    where
      placed : used + length (lines_of (r ∷ y.said)) ≡ used + line_long r + length (lines_of y.said)
      placed = rw (lines_more r y.said, length-append (line_of r) (lines_of y.said)) (omega arith)

      written : sets out used (lines_of (r ∷ y.said)) ≡ sets (sets out used (line_of r)) (used + line_long r) (lines_of y.said)
      written = rw (lines_more r y.said) (sym (sets-both out used (line_of r) (lines_of y.said)))

  -- no reply: the run stands where it stood
  still : (f : Full) → left_at s at used out (record { said = []; state = f }) ≡ stands at used f out
  unfolding lines_of bytes_of
  still f i = stands at (add-zero used i) f out

-- ---- the first record of a run
module _ (s : List ℕ) (at used : ℕ) (out : List ℕ) (f : Full) (x : Record) (k : ℕ) (st : Stands s at x k) where
  -- its line fits: the run goes on behind it
  goes_on : (v : Verdict Full) → v ≡ perform step x f → leb (line_long (reply_of v)) (length out - used) ≡ true
      → resumed s at used out f ≡ resumed s k (used + line_long (reply_of v)) (sets out used (line_of (reply_of v))) (kept v f)
  unfolding runs
  goes_on v e fits =
      ap (λ (l : List Record). left_at s at used out (runs step line_long (length out - used) l f)) st.first
      ∙ rw (sym e, fits)
      (behind s at used out (reply_of v) k st.ends (runs step line_long (length out - used - line_long (reply_of v)) (records_at s k) (kept v f))
      ∙ ap (λ (room : ℕ). left_at s k (used + line_long (reply_of v)) (sets out used (line_of (reply_of v))) (runs step line_long room (records_at s k) (kept v f)))
      (omega (arith, length-sets out used (line_of (reply_of v)))))

  -- it does not: the run stops before it
  stops : (v : Verdict Full) → v ≡ perform step x f → leb (line_long (reply_of v)) (length out - used) ≡ false → resumed s at used out f ≡ stands at used f out
  unfolding runs
  stops v e over =
      ap (λ (l : List Record). left_at s at used out (runs step line_long (length out - used) l f)) st.first
      ∙ rw (sym e, over) (still s at used out f)

-- no record is left
ends-here : (s : List ℕ) (at used : ℕ) (out : List ℕ) (f : Full) → read_at s at ≡ End → resumed s at used out f ≡ stands at used f out
unfolding runs
ends-here s at used out f e =
    ap (λ (l : List Record). left_at s at used out (runs step line_long (length out - used) l f)) (onward s at End e) ∙ still s at used out f

-- ---- a turn: the run goes on from where it leads, or stands where it stood
abbrev led : Option ℕ → List ℕ → ℕ → ℕ → List ℕ → Full → Left
led (Some k) s at used out f = resumed s k used out f
led None s at used out f = stands at used f out

abbrev left_after : List ℕ → ℕ → Turned Full → Left
left_after s at t = led t.next s at t.used t.lines t.after

-- where it leads: on, and not past the script
abbrev Onward : Option ℕ → ℕ → ℕ → Type 0
Onward (Some k) at n = (at < k) × (k ≤ n)
Onward None at n = Unit {0}

module _ (s : List ℕ) (at used : ℕ) (out : List ℕ) (f : Full) where
  by-record : (x : Record) (k : ℕ) → Stands s at x k → resumed s at used out f ≡ left_after s at (turn_by (perform step x f) k used out f)
  by-record x k st = by-test (leb (line_long (reply_of (perform step x f))) (length out - used))
      (λ e. rw e (goes_on s at used out f x k st (perform step x f) refl e))
      (λ e. rw e (stops s at used out f x k st (perform step x f) refl e))

  by_read : (r : Read) → read_at s at ≡ r → resumed s at used out f ≡ left_after s at (turn_read r (length s) used out f)
  by_read (Whole r k) e = by-record (does r.op) k (whole-stands s at r k e)
  by_read (Wrong k) e = by-record wrong k (wrong-stands s at k e)
  by_read Cut e = by-record cut (length s) (cut_stands s at e)
  by_read End e = ends-here s at used out f e

  turn_is : resumed s at used out f ≡ left_after s at (turn_of s at used out f)
  turn_is = by_read (read_at s at) refl

  -- what a turn keeps: the store is well-formed, and where it leads lies further on in the script
  pub record Kept (t : Turned Full) : Type 0 where
    pub ok : WellFormed t.after.store
    pub onward : Onward t.next at (length s)

  module _ (v : WellFormed f.store) where
    kept_by : (w : Verdict Full) (k : ℕ) → WellFormed (kept w f).store → (at < k) × (k ≤ length s) → Kept (turn_by w k used out f)
    kept_by w k fine far = by-test (leb (line_long (reply_of w)) (length out - used))
        (λ e. rw e (record { ok = fine; onward = far }))
        (λ e. rw e (record { ok = v; onward = tt }))

    kept_read : (r : Read) → Past at (length s) r → Kept (turn_read r (length s) used out f)
    kept_read (Whole r k) p = kept_by (step r.op f) k (step_keeps r.op f v) p
    kept_read (Wrong k) p = kept_by (perform step wrong f) k v p
    kept_read Cut p = kept_by (perform step cut f) (length s) v (p, omega arith)
    kept_read End p = record { ok = v; onward = tt }

-- ---- the loop: what is left to run from here gives the whole
pub record Running (s : List ℕ) (used₀ : ℕ) (out₀ : List ℕ) (f₀ : Full) (at used : ℕ) (out : List ℕ) (f : Full) : Type 0 where
  pub ok : WellFormed f.store
  pub inside : at ≤ length s
  pub same : resumed s at used out f ≡ resumed s 0 used₀ out₀ f₀

pub started : (s : List ℕ) (used : ℕ) (out : List ℕ) (f : Full) → WellFormed f.store → Running s used out f 0 used out f
started s used out f v = record { ok = v; inside = omega arith; same = refl }

module _ (s : List ℕ) (used₀ : ℕ) (out₀ : List ℕ) (f₀ : Full) (at used : ℕ) (out : List ℕ) (f : Full) (r : Running s used₀ out₀ f₀ at used out f) (t : Turned Full) (e : t ≡ turn_of s at used out f) where
  keeps : Kept s at used out f t
  keeps = rw e (kept_read s at used out f r.ok (read_at s at) (past s at))

  leads : resumed s 0 used₀ out₀ f₀ ≡ left_after s at t
  leads = sym r.same ∙ turn_is s at used out f ∙ ap (left_after s at) (sym e)

  module _ (k : ℕ) (g : t.next ≡ Some k) where
    pub further : (at < k) × (k ≤ length s)
    further = rw g at keeps.onward

    pub runs_on : Running s used₀ out₀ f₀ k t.used t.lines t.after
    runs_on = record { ok = keeps.ok; inside = further.1; same = sym (rw g at leads) }

  pub runs-out : t.next ≡ None → stands at t.used t.after t.lines ≡ resumed s 0 used₀ out₀ f₀
  runs-out g = sym (rw g at leads)
