-- `grow` meets its contract. Assumes nothing.
use mathlib.Core.Path.{sym, ◌∙◌}
use Rattle.tail.proofs.Grown.{grown-wrap, grown-stay, wrap-words}
use Rattle.tail.proofs.space.grow.Goals as goal

pub respace-requires : goal.respace-requires
respace-requires c = rw (c.words_for.ensures, ← wrap-words _ c.if-n-eq0.true) c.requires.room

pub returns-then-n-eq0 : goal.returns-then-n-eq0
returns-then-n-eq0 c = c.respace.ensures ∙ rw c.words_for.ensures (sym (grown-wrap _ _ _ c.if-n-eq0.true))

pub returns-else-n-eq0 : goal.returns-else-n-eq0
returns-else-n-eq0 c = sym (grown-stay _ _ _ c.if-n-eq0.false)
