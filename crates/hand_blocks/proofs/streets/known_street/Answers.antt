use Rattle.std.proofs.Common.{subst}
use Rattle.even_luck.specs.Equities.{IsCountOf}
use Rattle.hand_blocks.proofs.StreetFacts.{street_same}
use Rattle.showdown_tally.specs.Deals.{deal_of}
use Rattle.hand_blocks.proofs.streets.known_street.Goals as goal

pub returns : goal.returns
returns c =
    let shown = c.args.shown.now in
    let full = (subst (IsCountOf (deal_of shown.table.now)) c.in-Ok.ensures.counted c.requires.equity).0 in
    rw (← street_same c.args.sheet.now.form shown.names.now shown.seats.now c.args.street shown.table.now c.in-Ok.tally.now full) c.counted_street.ensures
