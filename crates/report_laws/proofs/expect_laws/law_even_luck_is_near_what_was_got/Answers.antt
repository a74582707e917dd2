use Rattle.report_laws.proofs.EvenNear.{even_is_near}
use Rattle.showdown_tally.specs.Deals.{deal_of}
use Rattle.report_laws.proofs.expect_laws.law_even_luck_is_near_what_was_got.Goals as goal

pub returns-clause-high : goal.returns-clause-high
returns-clause-high c s seats game players some =
    even_is_near s seats (deal_of c.args.table.now) some (c.law_even_luck_adds_up_to_what_was_got.ensures.high s.pots seats game players)

pub returns-clause-low : goal.returns-clause-low
returns-clause-low c s seats game lows some =
    even_is_near s seats (deal_of c.args.table.now) some (c.law_even_luck_adds_up_to_what_was_got.ensures.low s.pots seats game lows)
