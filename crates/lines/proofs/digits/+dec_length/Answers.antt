-- `lines::digits::dec_length` meets its contract. Assumes nothing.
use mathlib.Core.Path.{sym}
use native.Mathlib.Omega.{arith}
use Rattle.lines.proofs.Dec.{one-long, more-long, dec-short}
use Rattle.lines.proofs.digits.+dec_length.Goals as goal

pub returns-then-n-lt10 : goal.returns-then-n-lt10
returns-then-n-lt10 t c = (sym (one-long _ c.if-n-lt10.true), omega arith)

pub dec_length-requires : goal.dec_length-requires
dec_length-requires t c = (omega arith, tt)

pub overflow_add-result : goal.overflow_add-result
overflow_add-result t c = omega arith

pub returns : goal.returns
returns t c = (omega (arith, more-long _ c.if-n-lt10.false), omega (arith, more-long _ c.if-n-lt10.false, dec-short 19 c.args.n (omega arith)))
