-- `operations::apply` meets its contract. Assumes nothing.
use mathlib.Core.Path.{sym, ◌∙◌}
use Rattle.operations.proofs.Checks.{asked-here, change-done, change-refused}
use Rattle.operations.proofs.Others.{question-not-make}
use Rattle.operations.proofs.apply.Goals as goal

pub ask-requires : goal.ask-requires
ask-requires c = record { well_formed = rw c.view.ensures (c.requires (question-not-make c.args.op (sym c.is_question.ensures ∙ c.if-is_question.true))); op_value = sym c.is_question.ensures ∙ c.if-is_question.true }

pub returns-then-is_question-clause-told : goal.returns-then-is_question-clause-told
returns-then-is_question-clause-told c = asked-here _ _ _ c.view.ensures _ _ _ c.ask.ensures

pub returns-in_err-change-clause-told : goal.returns-in_err-change-clause-told
returns-in_err-change-clause-told c = change-refused _ (sym c.is_question.ensures ∙ c.if-is_question.false) _ _ _ _ _ _ c.from_residual.ensures.1 c.in_err-change.ensures.told

pub returns-clause-told : goal.returns-clause-told
returns-clause-told c = change-done _ (sym c.is_question.ensures ∙ c.if-is_question.false) _ _ _ _ c.in_ok-change.ensures.told
