-- `arraymap_try::checks::exact_and_spent` meets its contract. Assumes nothing.
use mathlib.Core.Path.{refl}
use Rattle.laws.specs.Parts.{part, row_of}
use Rattle.laws.specs.Tests.{all_below}
use Rattle.arraymap_try.proofs.Computed.{row_test, rows_test, can-check}
use Rattle.arraymap.specs.Check.{ok_from}
use Rattle.arraymap_try.proofs.checks.exact_and_spent.Goals as goal

pub checks-requires : goal.checks-requires
unfolding rows_test row_test all_below ok_from row_of part
checks-requires c = can-check _ _ _ _ _ _ _ _ refl refl refl refl

pub checks-requires-2 : goal.checks-requires-2
unfolding rows_test row_test all_below ok_from row_of part
checks-requires-2 c = can-check _ _ _ _ _ _ _ _ refl refl refl refl

pub checks-requires-3 : goal.checks-requires-3
unfolding rows_test row_test all_below ok_from row_of part
checks-requires-3 c = can-check _ _ _ _ _ _ _ _ refl refl refl refl
