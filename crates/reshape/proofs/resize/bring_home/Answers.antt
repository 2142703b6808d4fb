-- `reshape::resize::bring_home` meets its contract. Assumes nothing.
use Rattle.reshape.proofs.Resizes.{is_home, can-trade, can-trade-words, can-turn, brought}
use Rattle.reshape.proofs.resize.bring_home.Goals as goal

pub returns-then-y-x-clause-told : goal.returns-then-y-x-clause-told
returns-then-y-x-clause-told c = is_home _ c.requires.well_formed _ c.requires.r_low _ c.home_row-home.ensures c.if-y-x.true

pub trade_lists-requires : goal.trade_lists-requires
trade_lists-requires c = can-trade _ c.requires.well_formed _ c.requires.r_low _ c.home_row-home.ensures c.if-y-x.false

pub trade_words-requires : goal.trade_words-requires
trade_words-requires c = can-trade-words _ c.requires.well_formed _ c.requires.r_low _ c.home_row-home.ensures c.if-y-x.false

pub swap_home_rows-requires : goal.swap_home_rows-requires
swap_home_rows-requires c = can-turn _ c.requires.well_formed _ c.requires.r_low _ c.home_row-home.ensures c.if-y-x.false

pub returns-clause-told : goal.returns-clause-told
returns-clause-told c = brought _ c.requires.well_formed _ c.requires.r_low _ c.home_row-home.ensures c.if-y-x.false _ _ _ _ _ c.trade_lists.ensures c.trade_words.ensures c.swap_home_rows.ensures
