-- `xor_rows` meets its contract: the first i words of row dst are done. Assumes nothing.
use native.Mathlib.Omega.{arith}
use Rattle.tail.proofs.Runs.{xor-start, xor-more, xor-done}
use Rattle.tail.proofs.rows.xor_rows.Goals as goal

pub loop-i-init : goal.loop-i-init
loop-i-init c = (omega arith, xor-start _ _ _ _ c.requires)

pub loop-i-preserved : goal.loop-i-preserved
loop-i-preserved c = (omega arith, xor-more _ _ _ _ _ _ c.loop-i.invariant.1 c.requires (omega arith))

pub returns : goal.returns
returns c = xor-done _ _ _ _ _ _ c.loop-i.invariant.1 (omega arith)
