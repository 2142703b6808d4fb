-- `reshape::resize::splits` meets its contract. Assumes nothing.
use Rattle.reshape.proofs.Resizes.{none-go, some_go}
use Rattle.reshape.proofs.resize.splits.Goals as goal

pub returns-then-gone-eq0 : goal.returns-then-gone-eq0
returns-then-gone-eq0 c = none-go _ _ c.if-gone-eq0.true

pub returns : goal.returns
returns c = some_go _ _ c.if-gone-eq0.false
