use Rattle.std.proofs.Common.{length, ap, ◌∙◌}
use Rattle.std.specs.Option.{option_map_or}
use Rattle.player_totals.proofs.MadeFacts.{units_full}
use Rattle.even_luck.specs.Figures.{full_figures}
use Rattle.player_totals.specs.Made.{hand_units}
use Rattle.showdown_tally.specs.Deals.{deal_of}
use Rattle.player_totals.proofs.made_sums.seat_units.Goals as goal

pub returns-in-Some-clause-value : goal.returns-in-Some-clause-value
returns-in-Some-clause-value c =
    let deal = deal_of c.args.table.now in
    let figures = full_figures deal in
    c.hand_units.ensures.value ∙ units_full deal c.args.tally.now _ c.in-Some.hand c.requires c.pot_count.ensures.few c.in-Some.ensures.within
    ∙ ap (λ n. hand_units figures n c.in-Some.hand) c.pot_count.ensures.value
    ∙ ap (λ hand. option_map_or (hand_units figures (length deal.pots)) hand 0) c.in-Some.ensures.value
