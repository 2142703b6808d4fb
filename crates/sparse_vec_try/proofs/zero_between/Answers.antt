-- `sparse_vec_try::zero_between` meets its contract. Assumes nothing.
use Rattle.sparse_vec_try.proofs.Told.{zero-start, zero_more, zero-all}
use mathlib.Core.Bool.{false≢true}
use native.Mathlib.Omega.{arith}
use Rattle.sparse_vec_try.proofs.zero_between.Goals as goal

pub returns-then-slots-to : goal.returns-then-slots-to
returns-then-slots-to c = λ e. absurd (false≢true e)

pub loop-k-init : goal.loop-k-init
loop-k-init c = zero-start _ _

pub returns-then-slots-k-ne0 : goal.returns-then-slots-k-ne0
returns-then-slots-k-ne0 c = λ e. absurd (false≢true e)

pub loop-k-preserved : goal.loop-k-preserved
loop-k-preserved c = zero_more _ _ _ c.loop-k.invariant c.if-slots-k-ne0.false

pub returns : goal.returns
returns c = λ e. zero-all _ _ _ _ c.loop-k.invariant (omega arith)
