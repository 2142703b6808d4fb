-- `arraymap_try::shows::long_list` meets its contract. Assumes nothing.
use mathlib.Core.Path.{refl}
use native.Mathlib.Omega.{arith}
use Rattle.laws.specs.Tests.{all_below}
use Rattle.arraymap_try.proofs.Computed.{back_test, can-show}
use Rattle.arraymap.specs.Check.{ok_from}
use Rattle.arraymap_try.proofs.shows.long_list.Goals as goal

pub shows-requires : goal.shows-requires
unfolding back_test all_below ok_from
shows-requires c = record { can_show = can-show _ _ _ _ refl refl refl refl refl; a_bound = omega arith }

pub shows-requires-2 : goal.shows-requires-2
unfolding back_test all_below ok_from
shows-requires-2 c = record { can_show = can-show _ _ _ _ refl refl refl refl refl; a_bound = omega arith }

pub shows-requires-3 : goal.shows-requires-3
unfolding back_test all_below ok_from
shows-requires-3 c = record { can_show = can-show _ _ _ _ refl refl refl refl refl; a_bound = omega arith }
