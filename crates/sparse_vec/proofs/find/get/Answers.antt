-- `sparse_vec::find::get` meets its contract. Assumes nothing.
use Rattle.sparse_vec.proofs.Finding.{is-there}
use Rattle.std.specs.Prelude.{is_ok}
use mathlib.Core.Path.{ap, ◌∙◌}
use Rattle.sparse_vec.proofs.find.get.Goals as goal

pub returns : goal.returns
returns g c = c.is_ok.ensures.value ∙ ap is_ok c.key_to_internal_index.ensures ∙ is-there _ _
