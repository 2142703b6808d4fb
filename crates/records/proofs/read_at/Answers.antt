-- `records::read_at` meets its contract. Assumes nothing.
use mathlib.Core.Path.{sym, ◌∙◌}
use borrow.Author.Rules.{rules}
use Rattle.records.proofs.Cases.{at-end, cut-head, whole, cut-payload, wrong-whole, wrong-cut}
use Rattle.records.proofs.read_at.Goals as goal

pub returns-then-s-at-clause-value : goal.returns-then-s-at-clause-value
returns-then-s-at-clause-value c = sym (at-end _ _ c.if-s-at.true)

pub returns-then-left-lt3-clause-value : goal.returns-then-left-lt3-clause-value
returns-then-left-lt3-clause-value c = sym (cut-head _ _ (search rules) (search rules))

pub returns-in-Some-clause-value : goal.returns-in-Some-clause-value
returns-in-Some-clause-value c = sym (whole _ _ _ (search rules) c.length_at-long.ensures.0 _ _ (sym c.right.ensures ∙ c.in-Some.is) (search rules) c.op_at-op.ensures)

pub returns-in-Some-2-clause-value : goal.returns-in-Some-2-clause-value
returns-in-Some-2-clause-value c = sym (cut-payload _ _ _ (search rules) c.length_at-long.ensures.0 _ (sym c.right.ensures ∙ c.in-Some.is) (search rules))

pub returns-in-None-clause-value : goal.returns-in-None-clause-value
returns-in-None-clause-value c = sym (wrong-whole _ _ _ (search rules) c.length_at-long.ensures.0 (sym c.right.ensures ∙ c.in-None.is) (search rules))

pub returns-in-None-2-clause-value : goal.returns-in-None-2-clause-value
returns-in-None-2-clause-value c = sym (wrong-cut _ _ _ (search rules) c.length_at-long.ensures.0 (sym c.right.ensures ∙ c.in-None.is) (search rules))
