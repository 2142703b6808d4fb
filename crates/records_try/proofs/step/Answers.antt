-- `records_try::step` meets its contract. Assumes nothing.
use Rattle.records_try.proofs.step.Goals as goal

pub returns-in-Whole : goal.returns-in-Whole
returns-in-Whole c = c.in-Whole.ensures.past

pub returns-in-Wrong : goal.returns-in-Wrong
returns-in-Wrong c = c.in-Wrong.ensures.past
