-- What MAKE's contracts say beside the model's words: its places, the checks of its numbers. Assumes nothing.
use Rattle.std.specs.Prelude.{Bool, false, ◌||◌, ℕ, ltb}
use Rattle.table.specs.declared.Sizes.{Sizes}
use Rattle.table.specs.Step.{height_limit, width_limit, slot_limit}
use Rattle.model.specs.Store as model

-- "a 0 by 0 store"
abbrev pub empty_head : model.Head
empty_head = record { h = 0; w = 0; n = 0; slots = 0; made = 0; on = false }

-- MAKE's places
abbrev pub sizes : (h w n slots : ℕ) → Sizes
sizes h w n slots = record { h = h; w = w; n = n; slots = slots }

-- "MAKE outside the limits"
abbrev pub outside : Sizes → Bool
outside p = ltb height_limit p.h || ltb width_limit p.w || ltb p.w p.n || ltb slot_limit p.slots
