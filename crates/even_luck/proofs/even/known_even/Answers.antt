use Rattle.std.proofs.Common.{◌≡◌, sym, true, false, arith}
use Rattle.even_luck.proofs.EvenFacts.{even_misfit, even_refused}
use Rattle.showdown_tally.specs.Deals.{deal_of}
use Rattle.even_luck.proofs.even.known_even.Goals as goal

pub returns-then-not-settlement-clause-value : goal.returns-then-not-settlement-clause-value
returns-then-not-settlement-clause-value c =
    let misfit : c.args.settlement.now.fits ≡ false = grind arith in
    even_misfit c.args.settlement.now c.args.seats.now (deal_of c.args.table.now) c.args.seat misfit

pub returns-in-None-clause-value : goal.returns-in-None-clause-value
returns-in-None-clause-value c =
    let deal = deal_of c.args.table.now in
    let fits : c.args.settlement.now.fits ≡ true = grind arith in
    even_refused c.args.settlement.now c.args.seats.now deal c.args.seat fits (sym c.in-None.ensures.counted)
