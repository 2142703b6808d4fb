-- What a guard says of the store that it lets through or refuses. Assumes nothing.
use Rattle.std.specs.Prelude.{◌≡◌, true, false, Result, Ok, Err}
use Rattle.model.specs.Store as model
use Rattle.model.specs.Check.{well_formed}
use Rattle.store_head.specs.declared.refusal.Refusal.{Refusal}
use Rattle.store_head.specs.declared.refusal.Refusal.TheVariants as refusal

-- let through only where the store is well-formed, refused with 1 only where it is not
abbrev pub Guards : {A : Type 0} → Result A Refusal → model.Store → Type 0
Guards (Ok x) s = true ≡ well_formed s
Guards (Err k) s = (k ≡ refusal.Damaged) × (false ≡ well_formed s)
