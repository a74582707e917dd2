use Rattle.even_luck.specs.Seats.{contenders}
use Rattle.even_luck.specs.EvenLuck.{shared_pots}
use Rattle.report_laws.proofs.EvenSums.{even_adds_up}
use Rattle.showdown_tally.specs.Deals.{deal_of}
use Rattle.report_laws.proofs.expect_laws.law_even_luck_adds_up_to_what_was_got.Goals as goal

pub returns-clause-high : goal.returns-clause-high
returns-clause-high c pots seats game players =
    let deal = deal_of c.args.table.now in
    even_adds_up pots seats deal (c.law_expectations_add_up_to_the_pots.ensures.high (shared_pots (contenders seats deal) pots) game players)

pub returns-clause-low : goal.returns-clause-low
returns-clause-low c pots seats game lows =
    let deal = deal_of c.args.table.now in
    even_adds_up pots seats deal (c.law_expectations_add_up_to_the_pots.ensures.low (shared_pots (contenders seats deal) pots) game lows)
