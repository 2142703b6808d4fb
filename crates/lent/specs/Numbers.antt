-- A list of plain numbers is what stands for it. Assumes nothing.
use Rattle.std.specs.Prelude.{◌≡◌, List, [], ◌∷◌, ℕ, map, refl}
use Rattle.std.proofs.Common.{ap}

pub map_same : (s : List ℕ) → s ≡ map (λ x. x) s
map_same [] = refl
map_same (x ∷ s) = ap (λ t. x ∷ t) (map_same s)
