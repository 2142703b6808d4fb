-- `sparse_vec::add::bring` meets its contract. Assumes nothing.
use Rattle.sparse_vec.proofs.Filled.{filled-done, bring-start, bring-more}
use native.Mathlib.Omega.{arith}
use Rattle.sparse_vec.proofs.add.bring.Goals as goal

pub loop-j-init : goal.loop-j-init
loop-j-init c = bring-start _ _ _ _ c.requires

pub loop-j-preserved : goal.loop-j-preserved
loop-j-preserved c = bring-more _ _ _ _ c.requires _ _ c.loop-j.invariant (omega arith)

pub returns : goal.returns
returns c = filled-done _ _ _ _ _ _ _ c.loop-j.invariant (omega arith) (omega arith)
