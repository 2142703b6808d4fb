-- `lines::digits::put_digits` meets its contract. Assumes nothing.
use Rattle.lines.proofs.Dec.{one-long, two-long, hundred-long}
use Rattle.lines.proofs.Writing.{put_one, put-pair, put_last}
use native.Mathlib.Omega.{arith}
use Rattle.lines.proofs.digits.+put_digits.Goals as goal

pub overflow_cast-out : goal.overflow_cast-out
overflow_cast-out t c = omega arith

pub overflow_add-out : goal.overflow_add-out
overflow_add-out t c = omega arith

pub bounds-out-at : goal.bounds-out-at
bounds-out-at t c = omega (arith, one-long c.args.n c.if-n-lt10.true)

pub overflow_add-result : goal.overflow_add-result
overflow_add-result t c = omega (arith, one-long c.args.n c.if-n-lt10.true)

pub returns-then-n-lt10 : goal.returns-then-n-lt10
returns-then-n-lt10 t c = record { value = omega (arith, one-long c.args.n c.if-n-lt10.true); out_after = put_one _ _ _ c.if-n-lt10.true }

pub put_two-requires : goal.put_two-requires
put_two-requires t c = (c.if-n-lt100.true, omega (arith, two-long c.args.n (omega arith) c.if-n-lt100.true))

pub overflow_add-result-then-n-lt100 : goal.overflow_add-result-then-n-lt100
overflow_add-result-then-n-lt100 t c = omega (arith, two-long c.args.n (omega arith) c.if-n-lt100.true)

pub returns-then-n-lt100 : goal.returns-then-n-lt100
returns-then-n-lt100 t c = record { value = omega (arith, two-long c.args.n (omega arith) c.if-n-lt100.true); out_after = put-pair _ _ _ c.args.n (omega arith) c.if-n-lt100.true c.put_two.ensures }

pub put_digits-p-requires : goal.put_digits-p-requires
put_digits-p-requires t c = (omega arith, omega (arith, hundred-long c.args.n (omega arith)))

pub put_two-requires-2 : goal.put_two-requires-2
put_two-requires-2 t c = (omega arith, omega (arith, hundred-long c.args.n (omega arith), c.put_digits-p.ensures.value, c.put_digits-p.auto.out))

pub overflow_add-result-2 : goal.overflow_add-result-2
overflow_add-result-2 t c = omega (arith, hundred-long c.args.n (omega arith), c.put_digits-p.ensures.value)

pub returns : goal.returns
returns t c = record { value = omega (arith, hundred-long c.args.n (omega arith), c.put_digits-p.ensures.value); out_after = put_last _ _ _ _ _ c.args.n (omega arith) c.put_digits-p.ensures.out_after c.put_digits-p.ensures.value c.put_two-2.ensures }
