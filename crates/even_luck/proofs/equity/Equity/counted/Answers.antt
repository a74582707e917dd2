use Rattle.std.proofs.Common.{subst, sym}
use Rattle.even_luck.specs.Equities.{IsEquityOf}
use Rattle.even_luck.proofs.CountedFacts.{asked_of, counted_refused}
use Rattle.showdown_tally.specs.Deals.{deal_of}
use Rattle.even_luck.proofs.equity.Equity.counted.Goals as goal

pub answer-requires : goal.answer-requires
answer-requires c = record { asked = asked_of (deal_of c.args.table.now) c.args.self.now c.requires }

pub with_runout-requires : goal.with_runout-requires
with_runout-requires c = subst (IsEquityOf (deal_of c.args.table.now)) c.in-Ok.ensures.counted c.requires

pub returns-in-Err-clause-counted : goal.returns-in-Err-clause-counted
returns-in-Err-clause-counted c =
    let deal = deal_of c.args.table.now in
    sym (counted_refused deal c.in-Err.field-0 (subst (IsEquityOf deal) c.in-Err.ensures.refused c.requires))
