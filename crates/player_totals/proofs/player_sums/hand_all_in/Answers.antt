use Rattle.std.proofs.Common.{length, ap, ◌∙◌, arith}
use Rattle.player_totals.specs.Totals.{collected_by}
use Rattle.even_luck.specs.Figures.{expected_units, given_to, tally_figures}
use Rattle.even_luck.proofs.CallerLemmas.{few_units, expected_full}
use Rattle.showdown_tally.specs.Deals.{deal_of}
use Rattle.player_totals.proofs.player_sums.hand_all_in.Goals as goal

pub expected_by-requires-clause-small : goal.expected_by-requires-clause-small
expected_by-requires-clause-small c = λ k p. few_units (deal_of c.args.table.now) c.args.tally.now k c.args.hand c.requires.full p c.requires.hand

pub returns-clause-value : goal.returns-clause-value
returns-clause-value c =
    let deal = deal_of c.args.table.now in
    let few = c.pot_count.ensures.few in
    let count = c.pot_count.ensures.value in
    let collected = c.collected_by.ensures.value ∙ ap (λ n. collected_by c.args.settlement.now n c.args.seat) count in
    let expected = c.expected_by.ensures.value ∙ ap (λ pots. expected_units c.args.tally.now.runouts (given_to pots (tally_figures c.args.tally.now) c.args.hand (length deal.pots))) c.items.ensures.items
    ∙ expected_full c.args.settlement.now deal c.args.tally.now c.args.hand c.requires.full c.requires.hand (omega arith) in
    λ i. record { hands = 1; all_ins = 1; collected = collected i; expected = expected i }
