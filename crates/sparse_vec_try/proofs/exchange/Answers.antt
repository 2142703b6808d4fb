-- `sparse_vec_try::exchange` meets its contract. Assumes nothing.
use mathlib.Core.Logic.{inl}
use borrow.Author.Tests.{leb-true, ltb-false}
use native.Mathlib.Omega.{arith}
use Rattle.sparse_vec_try.proofs.exchange.Goals as goal

pub exchange-requires : goal.exchange-requires
exchange-requires c = record { first = omega (arith, leb-true, ltb-false); second = omega (arith, leb-true, ltb-false); apart = inl (omega (arith, leb-true, ltb-false)) }
