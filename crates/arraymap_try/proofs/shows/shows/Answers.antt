-- `arraymap_try::shows::shows` meets its contract. Assumes nothing.
use mathlib.Core.Path.{refl}
use Rattle.arraymap_try.proofs.Computed.{can-answer}
use Rattle.arraymap_try.proofs.shows.shows.Goals as goal

pub show-requires : goal.show-requires
show-requires c = can-answer _ _ _ _ _ _ _ c.requires.can_show c.requires.a_bound refl
