use Rattle.std.proofs.Common.{◌≡◌, ◌∙◌}
use Rattle.player_totals.proofs.MadeFacts.{made_counted}
use Rattle.even_luck.proofs.CallerLemmas.{counted_some}
use Rattle.even_luck.specs.Figures.{full_figures}
use Rattle.showdown_tally.specs.Deals.{deal_of}
use Rattle.player_totals.proofs.made_sums.counted_all_in.Goals as goal

pub returns-clause-value : goal.returns-clause-value
returns-clause-value c =
    let deal = deal_of c.args.table.now in
    let runouts : c.from.result ≡ (full_figures deal).all = c.from.ensures ∙ c.runouts.ensures ∙ c.requires.full.counts.runouts in
    let first = c.seat_units.ensures.value in
    let second = c.seat_units-2.ensures.value in
    (λ i. record { runouts = runouts i; first = first i; second = second i }) ∙ made_counted c.args.seats.now deal (counted_some deal c.args.tally.now c.requires.full c.requires.some)
