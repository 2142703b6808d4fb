-- `padding_clear` meets its contract: the rows before y have clear padding. Assumes nothing.
use Prim.Native.Nat.{◌+◌, ◌*◌, ◌≤◌, ◌<◌}
use native.Mathlib.Omega.{arith}
use lib.ListN.{length}
use lib.Pow.{pow_pos}
use Rattle.laws.specs.Words.{words_for}
use Rattle.laws.proofs.Parts.{row-end}
use Rattle.laws.proofs.Passes.{passed_start, passed-more, passed-fails, passed-done}
use Rattle.tail.proofs.Digits.{shl_one}
use Rattle.tail.proofs.Tails.{pads-none, pad-true, pad-false}
use Rattle.tail.proofs.rows.padding_clear.Goals.{In-loop-y}
use Rattle.tail.proofs.rows.padding_clear.Goals as goal

-- the row of a turn has a first word, and ends in the words
ends : (c : In-loop-y)
    → let s = c.words_for-s.result in let a = c.args in
    (0 < s) × (c.loop-y.y * s + s ≤ length a.ws.now)
ends c =
    let a = c.args in
    rw c.words_for-s.ensures (omega arith, omega (arith, row-end c.loop-y.y a.h (words_for a.n) (omega arith)))

pub returns-then-pad-eq0 : goal.returns-then-pad-eq0
returns-then-pad-eq0 c = pads-none _ _ _ (omega (arith, c.padding_of-pad.ensures))

pub loop-y-init : goal.loop-y-init
loop-y-init c = passed_start _ _

pub returns-then-ws-y-ne0 : goal.returns-then-ws-y-ne0
returns-then-ws-y-ne0 c = passed-fails _ _ _ c.loop-y.invariant (omega arith) (pad-false _ _ _ _ _ c.words_for-s.ensures c.padding_of-pad.ensures c.if-ws-y-ne0.true)

pub loop-y-preserved : goal.loop-y-preserved
loop-y-preserved c = passed-more _ _ _ c.loop-y.invariant (omega arith) (pad-true _ _ _ _ _ c.words_for-s.ensures c.padding_of-pad.ensures c.if-ws-y-ne0.false)

pub returns : goal.returns
returns c = passed-done _ _ _ c.loop-y.invariant (omega arith)

pub overflow_sub-mask : goal.overflow_sub-mask
overflow_sub-mask c = rw (shl_one c.padding_of-pad.result (omega (arith, c.padding_of-pad.ensures))) (omega (arith, pow_pos c.padding_of-pad.result))

pub overflow_mul-y : goal.overflow_mul-y
overflow_mul-y c = omega (arith, ends (goal.at.overflow_mul-y c).In-loop-y)

pub bounds-ws-y : goal.bounds-ws-y
bounds-ws-y c = omega (arith, ends (goal.at.bounds-ws-y c).In-loop-y)
