use Rattle.std.proofs.Common.{sym}
use Rattle.player_totals.proofs.MadeFacts.{made_none}
use Rattle.showdown_tally.specs.Deals.{deal_of}
use Rattle.player_totals.proofs.made_sums.known_all_in.Goals as goal

pub returns-in-None-clause-value : goal.returns-in-None-clause-value
returns-in-None-clause-value c = made_none c.args.seats.now (deal_of c.args.table.now) (sym c.in-None.ensures.counted)
