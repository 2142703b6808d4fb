-- How a call on a store and no answer buffer can end, in the words of the contracts. Assumes nothing.
use mathlib.Core.Path.{◌≡◌}
use mathlib.Core.List.{[]}
use Prim.Native.Nat.{ℕ}
use Rattle.table.specs.declared.Op.{Op}
use Rattle.table.specs.Refusals.{Verdict}
use Rattle.table.specs.Run.{ok, nay}
use Rattle.model.specs.Store.{Head, Store, Full}
use Rattle.model.specs.Step.{Result, result_of}
use Rattle.store_head.specs.Lent.{full_of}

-- the number k, and the store as it was; `call` is inner, or step
abbrev pub Refuses : (Op → Full → Verdict Full) → Op → Store → ℕ → Type 0
Refuses call o s k = ◌≡◌ {A = Result} (record { reply = nay k; after = full_of s [] }) (result_of (full_of s []) (call o (full_of s [])))

-- the store u
abbrev pub Leaves : (Op → Full → Verdict Full) → Op → Store → Store → Type 0
Leaves call o s u = ◌≡◌ {A = Result} (record { reply = ok []; after = full_of u [] }) (result_of (full_of s []) (call o (full_of s [])))

-- a head over no numbers at all
abbrev pub over_head : Head → Store
over_head h =
    record {
      head = h;
      slots = record { entries = []; counts = [] };
      rows = record { homes = []; logicals = [] };
      columns = record { homes = []; logicals = [] };
      index = record { starts = []; entries = []; marks = [] };
      words = [];
    }
