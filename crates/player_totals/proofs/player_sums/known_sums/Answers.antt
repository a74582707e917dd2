use Rattle.std.proofs.Common.{sym}
use Rattle.player_totals.proofs.SumFacts.{known_alone}
use Rattle.showdown_tally.specs.Deals.{deal_of}
use Rattle.player_totals.proofs.player_sums.known_sums.Goals as goal

pub returns-in-None-clause-value : goal.returns-in-None-clause-value
returns-in-None-clause-value c = known_alone c.args.settlement.now c.args.seats.now (deal_of c.args.table.now) c.args.seat (sym c.in-None.ensures.counted)
