-- `sparse_matrix::sub_row` meets its contract. Assumes nothing.
use mathlib.Core.Path.{refl, sym, ◌∙◌}
use Rattle.store_head.proofs.Calls.{sound, damaged-handed, whole-handed}
use Rattle.sparse_matrix.proofs.ask.sub_row.Goals as goal

pub returns-then-not-well_formed : goal.returns-then-not-well_formed
returns-then-not-well_formed c = damaged-handed _ _ refl (sym c.if-not-well_formed.true ∙ c.well_formed-2.ensures)

pub sub_row_in-requires : goal.sub_row_in-requires
sub_row_in-requires c = sound _ (sym c.if-not-well_formed.false ∙ c.well_formed-2.ensures)

pub returns : goal.returns
returns c = whole-handed _ _ _ (sym c.if-not-well_formed.false ∙ c.well_formed-2.ensures) c.sub_row_in.ensures
