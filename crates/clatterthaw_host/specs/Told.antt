-- Each answer of the store as a host's numbers. Assumes nothing.
use Rattle.std.specs.Prelude.{List, ℕ, ◌^◌, ◌<◌, length, Result, Ok, Err}
use Rattle.std.specs.Borrow.{Bor}
use Rattle.store_head.specs.declared.Numbers.{Numbers}
use Rattle.store_head.specs.declared.Size.{Size}
use Rattle.store_head.specs.declared.refusal.Refusal.{Refusal}
use Rattle.store_head.specs.Lent.{head_of}
use Rattle.store_head.specs.Refused.{number_of}
use Rattle.script.specs.declared.Stand.{Stand}
use Rattle.clatterthaw_host.specs.declared.PlainHead.{PlainHead}
use Rattle.clatterthaw_host.specs.declared.PlainChanged.{PlainChanged}
use Rattle.clatterthaw_host.specs.declared.PlainNumber.{PlainNumber}
use Rattle.clatterthaw_host.specs.declared.PlainSize.{PlainSize}
use Rattle.clatterthaw_host.specs.declared.PlainList.{PlainList}
use Rattle.clatterthaw_host.specs.declared.PlainWords.{PlainWords}
use Rattle.clatterthaw_host.specs.declared.PlainRan.{PlainRan}
use Rattle.clatterthaw_host.specs.Crossing.{plain_of}

abbrev pub plain_numbers : Numbers → PlainHead
plain_numbers d = plain_of (head_of d)

abbrev pub of_number : Result ℕ Refusal → PlainNumber
of_number (Ok x) = record { no = 0; value = x }
of_number (Err k) = record { no = number_of k; value = 0 }

abbrev pub of_sized : Result Size Refusal → PlainSize
of_sized (Ok p) = record { no = 0; h = p.h; w = p.w; n = p.n }
of_sized (Err k) = record { no = number_of k; h = 0; w = 0; n = 0 }

abbrev pub of_listed : Result ℕ Refusal → PlainList
of_listed (Ok c) = record { no = 0; count = c }
of_listed (Err k) = record { no = number_of k; count = 0 }

abbrev pub of_words : ℕ → Result (Bor (List ℕ)) Refusal → PlainWords
of_words at (Ok ws) = record { no = 0; count = length ws.now; start = at }
of_words at (Err k) = record { no = number_of k; count = 0; start = 0 }

-- a row's words are few
abbrev pub FewWords : Result (Bor (List ℕ)) Refusal → Type 0
FewWords (Ok ws) = length ws.now < 2 ^ 32
FewWords (Err k) = Unit {0}

abbrev pub of_changed : PlainHead → Numbers → Result (Unit {0}) Refusal → PlainChanged
of_changed p d (Ok x) = record { head = plain_numbers d; no = 0 }
of_changed p d (Err k) = record { head = p; no = number_of k }

abbrev pub of_ran : PlainHead → Numbers → Result Stand Refusal → PlainRan
of_ran p d (Ok s) = record { head = plain_numbers d; no = 0; done = s.done; written = s.written }
of_ran p d (Err k) = record { head = p; no = number_of k; done = 0; written = 0 }
