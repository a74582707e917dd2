use Rattle.std.proofs.Common.{ap, ◌∙◌}
use Rattle.std.specs.Option.{option_map_or}
use Rattle.player_totals.specs.Totals.{hand_all_in, hand_alone}
use Rattle.even_luck.proofs.CallerLemmas.{counted_some}
use Rattle.player_totals.proofs.SumFacts.{known_counted}
use Rattle.showdown_tally.specs.Deals.{deal_of}
use Rattle.player_totals.proofs.player_sums.counted_sums.Goals as goal

pub returns-in-Some-clause-value : goal.returns-in-Some-clause-value
returns-in-Some-clause-value c =
    let deal = deal_of c.args.table.now in
    c.hand_all_in.ensures.value ∙ ap (λ hand. option_map_or (hand_all_in c.args.settlement.now deal c.args.seat) hand hand_alone) c.in-Some.ensures.value
    ∙ known_counted c.args.settlement.now c.args.seats.now deal c.args.seat (counted_some deal c.args.tally.now c.requires.full c.requires.some)

pub returns-in-None-clause-value : goal.returns-in-None-clause-value
returns-in-None-clause-value c =
    let deal = deal_of c.args.table.now in
    ap (λ hand. option_map_or (hand_all_in c.args.settlement.now deal c.args.seat) hand hand_alone) c.in-None.ensures.value
    ∙ known_counted c.args.settlement.now c.args.seats.now deal c.args.seat (counted_some deal c.args.tally.now c.requires.full c.requires.some)
