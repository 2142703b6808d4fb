-- `arraymap::listed::Listed::rows_listed` meets its contract. Assumes nothing.
use mathlib.Core.Path.{refl, ◌∙◌}
use borrow.Author.Rules.{rules}
use borrow.Author.Tests.{tests}
use native.Mathlib.Omega.{arith}
use Rattle.std.proofs.lemmas.Iterator.{YieldsList-from_range}
use Rattle.std.proofs.lemmas.Iterator.Search.{all_from_yields_List}
use Rattle.laws.specs.Parts.{row_of}
use Rattle.arraymap.specs.Check.{row_listed}
use Rattle.arraymap.proofs.Tests.{all-numbers}
use Rattle.arraymap.proofs.listed.Listed.rows_listed.Goals as goal

pub returns : goal.returns
returns c =
    all_from_yields_List (row_listed c.args.self.now.starts.now c.args.self.now.entries.now (row_of c.args.self.now.rows.slots.now c.args.self.now.rows.counts.now c.args.self.now.rows.k)) _ _ _ c.all.ensures.ran
    (YieldsList-from_range 0 c.args.self.now.rows.h c.args.self.now.rows.h refl (omega arith)) (λ x b q k. search (rules, tests))
    ∙ all-numbers _ _
