-- `permutation::any_map::are_inverse` meets its contract. Assumes nothing.
use mathlib.Core.Path.{sym, ◌∙◌}
use Rattle.permutation.proofs.Inverse.{first-fails, second-tells}
use Rattle.permutation.proofs.any_map.are_inverse.Goals as goal

pub returns-then-leads_back : goal.returns-then-leads_back
returns-then-leads_back g c = second-tells _ _ _ _ (sym c.leads_back.ensures ∙ c.if-leads_back.true) c.leads_back-then-leads_back.ensures

pub returns-else-leads_back : goal.returns-else-leads_back
returns-else-leads_back g c = c.if-leads_back.false ∙ first-fails _ _ _ (sym c.leads_back.ensures ∙ c.if-leads_back.false)
