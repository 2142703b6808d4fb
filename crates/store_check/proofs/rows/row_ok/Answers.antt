-- `store_check::rows::row_ok` meets its contract. Assumes nothing.
use Rattle.store_check.proofs.Pieces.{row-long, row-wrong, row_told}
use Rattle.store_check.proofs.rows.row_ok.Goals as goal

pub returns-then-k-count : goal.returns-then-k-count
returns-then-k-count c = row-long _ _ c.if-k-count.true

pub returns-then-not-sound : goal.returns-then-not-sound
returns-then-not-sound c = row-wrong _ _ _ c.sound.ensures c.if-not-sound.true

pub returns : goal.returns
returns c = row_told _ _ _ c.sound.ensures c.if-k-count.false c.if-not-sound.false _ c.rest_zero.ensures
