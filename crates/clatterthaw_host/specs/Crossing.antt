-- What crosses to a host: a head and every answer as plain numbers. Assumes nothing.
use Rattle.std.specs.Prelude.{◌≡◌, Bool, not, ◌||◌, List, ℕ, leb, eqb, length, get_or}
use Rattle.laws.specs.Plain.{pick, num}
use Rattle.table.specs.declared.Op.{Op}
use Rattle.table.specs.Refusals.{Verdict, refused}
use Rattle.table.specs.Room.{kind, is_make}
use Rattle.table.specs.Run.{Reply, ok, nay}
use Rattle.model.specs.Store as model
use Rattle.model.specs.Step.{Result, step}
use Rattle.store_head.specs.declared.Numbers.{Numbers}
use Rattle.script.specs.Left.{Left, run_of}
use Rattle.clatterthaw_host.specs.declared.PlainHead.{PlainHead}
use Rattle.clatterthaw_host.specs.declared.PlainChanged.{PlainChanged}
use Rattle.clatterthaw_host.specs.declared.PlainNumber.{PlainNumber}
use Rattle.clatterthaw_host.specs.declared.PlainSize.{PlainSize}
use Rattle.clatterthaw_host.specs.declared.PlainList.{PlainList}
use Rattle.clatterthaw_host.specs.declared.PlainWords.{PlainWords}
use Rattle.clatterthaw_host.specs.declared.PlainRan.{PlainRan}

-- ---- the head

-- the index switch: 0 is off
abbrev pub switch_of : ℕ → Bool
switch_of k = not (eqb k 0)

abbrev pub numbers_of : PlainHead → Numbers
numbers_of p = record { h = p.h; w = p.w; n = p.n; slots = p.slots; made = p.made; on = switch_of p.on }

abbrev pub plain_of : model.Head → PlainHead
plain_of d = record { h = d.h; w = d.w; n = d.n; slots = d.slots; made = d.made; on = num d.on }

-- 0 and 1 are what a head's switch can be; with anything else the store is damaged
abbrev pub sound : PlainHead → Bool
sound p = leb p.on 1

-- ---- one call: a head that is none is refused with 1, but by MAKE, which asks for no store
abbrev pub crossing : PlainHead → Op → model.Full → Verdict model.Full
crossing p o f = pick (sound p || is_make (kind o)) (step o f) (refused 1)

-- ---- answers
abbrev pub number_by : Reply → PlainNumber
number_by (ok l) = record { no = 0; value = get_or l 0 0 }
number_by (nay k) = record { no = k; value = 0 }

abbrev pub size_by : Reply → PlainSize
size_by (ok l) = record { no = 0; h = get_or l 0 0; w = get_or l 1 0; n = get_or l 2 0 }
size_by (nay k) = record { no = k; h = 0; w = 0; n = 0 }

abbrev pub list_by : Reply → PlainList
list_by (ok l) = record { no = 0; count = length l }
list_by (nay k) = record { no = k; count = 0 }

-- the words from place `at` on
abbrev pub words_by : ℕ → Reply → PlainWords
words_by at (ok l) = record { no = 0; count = length l; start = at }
words_by at (nay k) = record { no = k; count = 0; start = 0 }

-- the head of the store that is left, or the head p that was given
abbrev pub changed_by : PlainHead → Reply → model.Head → PlainChanged
changed_by p (ok l) d = record { head = plain_of d; no = 0 }
changed_by p (nay k) d = record { head = p; no = k }

abbrev pub ran_by : PlainHead → Reply → model.Head → PlainRan
ran_by p (ok l) d = record { head = plain_of d; no = 0; done = get_or l 0 0; written = get_or l 1 0 }
ran_by p (nay k) d = record { head = p; no = k; done = 0; written = 0 }

-- a change, and what it leaves of the store
pub record Crossed (p : PlainHead) (x : PlainChanged) (r : Result) (left : Numbers → model.Full) : Type 0 where
  pub told : x ≡ changed_by p r.reply r.after.store.head
  pub kept : left (numbers_of x.head) ≡ r.after

-- ---- a run
abbrev pub running : PlainHead → List ℕ → List ℕ → model.Full → Left
running p s out f = pick (sound p) (run_of s out f) (record { reply = nay 1; after = f; lines = out })

pub record RunCrossed (p : PlainHead) (x : PlainRan) (r : Left) (left : Numbers → model.Full) (lines : List ℕ) : Type 0 where
  pub told : x ≡ ran_by p r.reply r.after.store.head
  pub kept : left (numbers_of x.head) ≡ r.after
  pub written : lines ≡ r.lines
