-- `arraymap::check::lists_ok` meets its contract. Assumes nothing.
use native.Mathlib.Omega.{arith}
use Rattle.laws.proofs.Passes.{passed_start, passed-more, passed-fails, passed-done}
use Rattle.arraymap.proofs.Tests.{span-list, ok-is}
use Rattle.arraymap.proofs.check.lists_ok.Goals as goal

pub loop-z-init : goal.loop-z-init
loop-z-init c = passed_start _ _

pub get-requires : goal.get-requires
get-requires c = span-list _ _ _ c.requires _ c.loop-z-test.true

pub returns-then-not-list_ok : goal.returns-then-not-list_ok
returns-then-not-list_ok c = passed-fails _ _ _ c.loop-z.invariant c.loop-z-test.true (ok-is _ _ _ _ _ _ _ c.get.ensures c.list_ok.ensures c.if-not-list_ok.true)

pub loop-z-preserved : goal.loop-z-preserved
loop-z-preserved c = passed-more _ _ _ c.loop-z.invariant c.loop-z-test.true (ok-is _ _ _ _ _ _ _ c.get.ensures c.list_ok.ensures c.if-not-list_ok.false)

pub returns : goal.returns
returns c = passed-done _ _ _ c.loop-z.invariant (omega arith)
