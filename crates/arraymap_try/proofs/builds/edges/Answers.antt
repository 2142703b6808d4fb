-- `arraymap_try::builds::edges` meets its contract. Assumes nothing.
use mathlib.Core.Path.{refl}
use Rattle.laws.specs.Parts.{part, row_of}
use Rattle.std.proofs.Common.{lit<}
use Rattle.laws.specs.Plain.{sum_of}
use Rattle.laws.specs.Tests.{all_below, zero_at, zero_from}
use Rattle.arraymap_try.proofs.Computed.{row_test, rows_test, can-build}
use Rattle.arraymap.specs.Index.{ones_of}
use Rattle.arraymap.specs.Check.{ok_from}
use Rattle.arraymap_try.proofs.builds.edges.Goals as goal

pub builds-requires : goal.builds-requires
unfolding rows_test row_test all_below ok_from row_of part ones_of sum_of zero_from zero_at
builds-requires c = (lit< tt, (lit< tt, can-build _ _ _ _ _ _ _ _ refl refl refl refl refl refl))

pub builds-requires-2 : goal.builds-requires-2
unfolding rows_test row_test all_below ok_from row_of part ones_of sum_of zero_from zero_at
builds-requires-2 c = (lit< tt, (lit< tt, can-build _ _ _ _ _ _ _ _ refl refl refl refl refl refl))

pub builds-requires-3 : goal.builds-requires-3
unfolding rows_test row_test all_below ok_from row_of part ones_of sum_of zero_from zero_at
builds-requires-3 c = (lit< tt, (lit< tt, can-build _ _ _ _ _ _ _ _ refl refl refl refl refl refl))

pub builds-requires-4 : goal.builds-requires-4
unfolding rows_test row_test all_below ok_from row_of part ones_of sum_of zero_from zero_at
builds-requires-4 c = (lit< tt, (lit< tt, can-build _ _ _ _ _ _ _ _ refl refl refl refl refl refl))

pub builds-requires-5 : goal.builds-requires-5
unfolding rows_test row_test all_below ok_from row_of part ones_of sum_of zero_from zero_at
builds-requires-5 c = (lit< tt, (lit< tt, can-build _ _ _ _ _ _ _ _ refl refl refl refl refl refl))
