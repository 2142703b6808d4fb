-- `arraymap::check::shape_ok` meets its contract. Assumes nothing.
use mathlib.Core.Path.{refl, ◌∙◌}
use lib.Dec.{leb}
use lib.ListN.{take}
use borrow.Author.Rules.{rules}
use borrow.Author.Tests.{tests, eq-eqb, ne_eqb}
use Rattle.std.proofs.lemmas.Iterator.{YieldsList-from_slice}
use Rattle.std.proofs.lemmas.Iterator.Search.{all_from_yields_List}
use Rattle.arraymap.proofs.Tests.{starts-up, marks_ok}
use Rattle.arraymap.proofs.Verdict.{asked, not-asked, shape-told}
use Rattle.arraymap.proofs.check.shape_ok.Goals as goal
use Rattle.arraymap.proofs.check.shape_ok.Goals.{then-starts-eq0, else-starts-eq0, then-is_sorted, else-is_sorted, then-end-entries, else-end-entries, then-rest_zero_in_steps, else-rest_zero_in_steps, then-rest_zero_in_steps-2, else-rest_zero_in_steps-2}

pub returns-then-rest_zero_in_steps-3 : goal.returns-then-rest_zero_in_steps-3
returns-then-rest_zero_in_steps-3 c = shape-told _ _ _ _ _ _ _ _ _ _
    (elim c.if-starts-eq0.branch [
      | then-starts-eq0 w ↦ asked _ _ _ (eq-eqb _ _ w.if-starts-eq0.true) (w.value-is ∙ starts-up _ _ _ c.requires.wide w.is_sorted.ensures.cases)
      | else-starts-eq0 w ↦ not-asked _ _ _ (ne_eqb _ _ w.if-starts-eq0.false) w.value-is
    ])
    (elim c.if-is_sorted.branch [ then-is_sorted w ↦ asked _ _ _ w.if-is_sorted.true w.value-is | else-is_sorted w ↦ not-asked _ _ _ w.if-is_sorted.false w.value-is ])
    (elim c.if-end-entries.branch [
      | then-end-entries w ↦ asked _ _ _ w.if-end-entries.true (w.value-is ∙ w.rest_zero_in_steps.ensures)
      | else-end-entries w ↦ not-asked _ _ _ w.if-end-entries.false w.value-is
    ])
    (elim c.if-rest_zero_in_steps.branch [
      | then-rest_zero_in_steps w ↦ asked _ _ _ w.if-rest_zero_in_steps.true (w.value-is ∙ w.rest_zero_in_steps-then-rest_zero_in_steps.ensures)
      | else-rest_zero_in_steps w ↦ not-asked _ _ _ w.if-rest_zero_in_steps.false w.value-is
    ])
    (elim c.if-rest_zero_in_steps-2.branch [
      | then-rest_zero_in_steps-2 w ↦ asked _ _ _ w.if-rest_zero_in_steps-2.true (w.value-is ∙ w.rest_zero_in_steps-then-rest_zero_in_steps-2.ensures)
      | else-rest_zero_in_steps-2 w ↦ not-asked _ _ _ w.if-rest_zero_in_steps-2.false w.value-is
    ])
    (asked _ _ _ c.if-rest_zero_in_steps-3.true (marks_ok _ _ _ c.requires.marked
    (all_from_yields_List (λ x. leb x 1) _ _ _ c.all.ensures.ran (YieldsList-from_slice (take c.args.m c.args.marks.now) (search rules)) (λ x b q k. search (rules, tests)))))

pub returns-else-rest_zero_in_steps-3 : goal.returns-else-rest_zero_in_steps-3
returns-else-rest_zero_in_steps-3 c = shape-told _ _ _ _ _ _ _ _ _ _
    (elim c.if-starts-eq0.branch [
      | then-starts-eq0 w ↦ asked _ _ _ (eq-eqb _ _ w.if-starts-eq0.true) (w.value-is ∙ starts-up _ _ _ c.requires.wide w.is_sorted.ensures.cases)
      | else-starts-eq0 w ↦ not-asked _ _ _ (ne_eqb _ _ w.if-starts-eq0.false) w.value-is
    ])
    (elim c.if-is_sorted.branch [ then-is_sorted w ↦ asked _ _ _ w.if-is_sorted.true w.value-is | else-is_sorted w ↦ not-asked _ _ _ w.if-is_sorted.false w.value-is ])
    (elim c.if-end-entries.branch [
      | then-end-entries w ↦ asked _ _ _ w.if-end-entries.true (w.value-is ∙ w.rest_zero_in_steps.ensures)
      | else-end-entries w ↦ not-asked _ _ _ w.if-end-entries.false w.value-is
    ])
    (elim c.if-rest_zero_in_steps.branch [
      | then-rest_zero_in_steps w ↦ asked _ _ _ w.if-rest_zero_in_steps.true (w.value-is ∙ w.rest_zero_in_steps-then-rest_zero_in_steps.ensures)
      | else-rest_zero_in_steps w ↦ not-asked _ _ _ w.if-rest_zero_in_steps.false w.value-is
    ])
    (elim c.if-rest_zero_in_steps-2.branch [
      | then-rest_zero_in_steps-2 w ↦ asked _ _ _ w.if-rest_zero_in_steps-2.true (w.value-is ∙ w.rest_zero_in_steps-then-rest_zero_in_steps-2.ensures)
      | else-rest_zero_in_steps-2 w ↦ not-asked _ _ _ w.if-rest_zero_in_steps-2.false w.value-is
    ])
    (not-asked _ _ _ c.if-rest_zero_in_steps-3.false refl)
