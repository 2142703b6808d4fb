-- ON and OFF on a well-formed store: what the index does not use is zero, and one law for each way out. Assumes nothing.
use mathlib.Core.Path.{◌≡◌, ◌∙◌}
use mathlib.Core.Bool.{true, false}
use mathlib.Core.List.{List, []}
use Prim.Native.Nat.{ℕ, ◌+◌, ◌-◌, ◌≤◌, ◌<◌}
use native.Mathlib.Omega.{arith}
use lib.ListN.{length, get_or}
use borrow.Author.Tests.{lt-ltb, le-ltb}
use Rattle.laws.specs.Parts.{zeros, put_at}
use Rattle.laws.proofs.Bools.{by-test}
use Rattle.lent.specs.Stretch.{Stretch}
use Rattle.arraymap.specs.Index.{starts_of, entries_of, ones_of, CanTotal, CanBuild}
use Rattle.table.specs.declared.Op.TheVariants.{On, Off}
use Rattle.model.specs.Store.{Store, row}
use Rattle.model.specs.WellFormed.{WellFormed, Zero}
use Rattle.model.specs.Change.{with_index}
use Rattle.model.specs.Step.{inner}
use Rattle.model.proofs.Walk.{all_ones_lem}
use Rattle.model.proofs.Switch.{index-rows}
use Rattle.model.proofs.Passed.{can-on}
use Rattle.store_head.specs.Lent.{full_of}
use Rattle.store_head.specs.Refused.{refusal_of}
use Rattle.store_head.proofs.Ends.{Refuses, Leaves}
use Rattle.store_head.proofs.Refuses.{past}
use Rattle.store_head.proofs.Clears.{all-clear}

-- what the index uses, on or off: the entries up to the last start, the starts and marks of the columns. All others are zero
pub record Tidy (s : Store) : Type 0 where
  pub end : get_or s.index.starts s.head.made 0 ≤ length s.index.entries
  pub starts : Zero s.index.starts (s.head.made + 1)
  pub entries : Zero s.index.entries (get_or s.index.starts s.head.made 0)
  pub marks : Zero s.index.marks s.head.made

module _ (s : Store) (v : WellFormed s) where
  pub tidy : Tidy s
  tidy = by-test s.head.on
      (λ e. record {
        end = (v.index.on e).end;
        starts = λ i h. (v.index.on e).rest-starts i (omega arith);
        entries = (v.index.on e).rest-entries;
        marks = (v.index.on e).rest-marks;
      })
      (λ e. record {
        end = omega (arith, v.index.off-starts e s.head.made (omega arith));
        starts = λ i h. v.index.off-starts e i (omega arith);
        entries = λ i h. v.index.off-entries e i (omega arith);
        marks = λ i h. v.index.off-marks e i (omega arith);
      })

  -- ---- what the callees ask
  pub last-in : s.head.made < length s.index.starts
  last-in = omega (arith, v.limits.starts)

  pub starts-in : Stretch s.index.starts 0 (s.head.made + 1)
  starts-in = record { in_order = omega arith; in-it = omega (arith, v.limits.starts) }

  pub can-total : CanTotal s.slots.counts s.head.h
  can-total = record { long = v.limits.counts; low-h = omega (arith, v.limits.height) }

  pub can-build : (ones : ℕ) → ones ≡ ones_of s.slots.counts s.head.h → ones ≤ length s.index.entries
      → CanBuild s.slots.entries s.slots.counts s.head.h s.head.slots s.head.made (get_or s.index.starts s.head.made 0) s.index.starts s.index.entries
  can-build ones e room =
      record {
        rows = index-rows s v;
        wide = last-in;
        room = rw e at room;
        used-in = tidy.end;
        clean-starts = λ i h. tidy.starts i (omega arith);
        clean-entries = tidy.entries;
      }

  -- ---- the ways out
  pub on-full : (ones : ℕ) → ones ≡ ones_of s.slots.counts s.head.h → length s.index.entries < ones → Refuses inner On s 14
  unfolding inner
  on-full ones e h = rw (all_ones_lem s v, lt-ltb (length s.index.entries) (ones_of s.slots.counts s.head.h) (rw e at h))

  pub on-done : (ones : ℕ) → ones ≡ ones_of s.slots.counts s.head.h → ones ≤ length s.index.entries
      → (marks starts entries : List ℕ) → marks ≡ put_at s.index.marks 0 (zeros (s.head.made - 0))
      → starts ≡ starts_of (row s) s.head.h s.head.made (length s.index.starts)
      → entries ≡ entries_of (row s) s.head.h s.head.made (length s.index.entries)
      → Leaves inner On s (with_index s true (record { starts = starts; entries = entries; marks = marks }))
  unfolding inner
  on-done ones e room marks starts entries a b c =
      rw (a, b, c, all-clear s.index.marks s.head.made v.limits.marks tidy.marks, all_ones_lem s v, le-ltb (length s.index.entries) (ones_of s.slots.counts s.head.h) (rw e at room))

  pub off-done : (marks entries starts : List ℕ) → marks ≡ put_at s.index.marks 0 (zeros (s.head.made - 0))
      → entries ≡ put_at s.index.entries 0 (zeros (get_or s.index.starts s.head.made 0 - 0))
      → starts ≡ put_at s.index.starts 0 (zeros ((s.head.made + 1) - 0))
      → Leaves inner Off s (with_index s false (record { starts = starts; entries = entries; marks = marks }))
  unfolding inner
  off-done marks entries starts a b c =
      rw (
        a ∙ all-clear s.index.marks s.head.made v.limits.marks tidy.marks,
        b ∙ all-clear s.index.entries (get_or s.index.starts s.head.made 0) tidy.end tidy.entries,
        c ∙ all-clear s.index.starts (s.head.made + 1) starts-in.in-it tidy.starts,
      )

  -- ---- nothing refuses ON
  pub on_room : 0 ≡ refusal_of (inner On (full_of s [])) → ones_of s.slots.counts s.head.h ≤ length s.index.entries
  on_room free = can-on (full_of s []) v (past On (full_of s []) free).1
