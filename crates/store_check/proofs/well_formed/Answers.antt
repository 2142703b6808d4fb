-- `store_check::well_formed` meets its contract. Assumes nothing.
use native.Mathlib.Omega.{arith}
use Rattle.store_check.proofs.Verdict.{said, limited, fails-head, fails-lengths, fails-maps, fails-unused, fails-rows, fails-padding, verdict, limits, has-rows}
use Rattle.store_check.proofs.well_formed.Goals as goal

pub returns-then-not-head_ok : goal.returns-then-not-head_ok
returns-then-not-head_ok c = fails-head _ (said c.head_ok.ensures c.if-not-head_ok.true)

pub long_enough-requires : goal.long_enough-requires
long_enough-requires c = limited _ (said c.head_ok.ensures c.if-not-head_ok.false)

pub returns-then-not-long_enough : goal.returns-then-not-long_enough
returns-then-not-long_enough c = fails-lengths _ (said c.long_enough.ensures c.if-not-long_enough.true)

pub returns-then-not-maps_ok : goal.returns-then-not-maps_ok
returns-then-not-maps_ok c = fails-maps _ (said c.maps_ok.ensures c.if-not-maps_ok.true)

pub unused_ok-requires : goal.unused_ok-requires
unused_ok-requires c = limited _ (said c.head_ok.ensures c.if-not-head_ok.false)

pub returns-then-not-unused_ok : goal.returns-then-not-unused_ok
returns-then-not-unused_ok c = fails-unused _ (said c.unused_ok.ensures c.if-not-unused_ok.true)

pub rows_ok-requires : goal.rows_ok-requires
rows_ok-requires c = has-rows _ (said c.head_ok.ensures c.if-not-head_ok.false) (said c.long_enough.ensures c.if-not-long_enough.false) (said c.maps_ok.ensures c.if-not-maps_ok.false)

pub returns-then-not-rows_ok : goal.returns-then-not-rows_ok
returns-then-not-rows_ok c = fails-rows _ (said c.rows_ok.ensures c.if-not-rows_ok.true)

pub padding_clear-requires : goal.padding_clear-requires
padding_clear-requires c = record { small = omega (arith, limited _ (said c.head_ok.ensures c.if-not-head_ok.false)); room = omega (arith, (limits _ (said c.head_ok.ensures c.if-not-head_ok.false) (said c.long_enough.ensures c.if-not-long_enough.false)).words) }

pub returns-then-not-padding_clear : goal.returns-then-not-padding_clear
returns-then-not-padding_clear c = fails-padding _ (said c.padding_clear.ensures c.if-not-padding_clear.true)

pub index_ok-requires : goal.index_ok-requires
index_ok-requires c = record {
  rows = has-rows _ (said c.head_ok.ensures c.if-not-head_ok.false) (said c.long_enough.ensures c.if-not-long_enough.false) (said c.maps_ok.ensures c.if-not-maps_ok.false);
  right = said c.rows_ok.ensures c.if-not-rows_ok.false;
}

pub returns : goal.returns
returns c = verdict _
    (said c.head_ok.ensures c.if-not-head_ok.false)
    (said c.long_enough.ensures c.if-not-long_enough.false)
    (said c.maps_ok.ensures c.if-not-maps_ok.false)
    (said c.unused_ok.ensures c.if-not-unused_ok.false)
    (said c.rows_ok.ensures c.if-not-rows_ok.false)
    (said c.padding_clear.ensures c.if-not-padding_clear.false)
    _ c.index_ok.ensures
