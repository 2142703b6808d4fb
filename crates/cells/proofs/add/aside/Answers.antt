-- `cells::add::aside` meets its contract. Assumes nothing.
use Rattle.cells.proofs.Sums.{aside-zero, aside-other}
use Rattle.cells.proofs.add.aside.Goals as goal

pub returns-then-start-eq0 : goal.returns-then-start-eq0
returns-then-start-eq0 c = aside-zero _ _ c.if-start-eq0.true

pub returns : goal.returns
returns c = aside-other _ _ c.if-start-eq0.false
