use Rattle.std.proofs.Common.{◌≡◌, ◌≤◌, length, arith, refl}
use Rattle.std.specs.Prelude.{slice_index_or}
use Rattle.std.proofs.lemmas.List.{length-take}
use Rattle.showdown_tally.specs.Deals.{deal_of}
use Rattle.showdown_tally.specs.Tallies.{runouts_after}
use Rattle.report_laws.proofs.ExpectFacts.{IsPotOf, all_given, few_eligible, table_pot}
use Rattle.report_laws.proofs.expect_laws.law_expectations_add_up_to_the_pots.Goals as goal

pub returns-clause-high : goal.returns-clause-high
returns-clause-high c pots game players =
    let table = c.args.table.now in
    let deal = deal_of table in
    let hands : length deal.state.hands ≡ table.known.count = omega (arith, length-take table.known.count table.known.hands, c.ten_hands.ensures, table.known.few) in
    let few : length deal.state.hands ≤ 10 = omega (arith, hands, table.known.few) in
    all_given pots deal (λ k below.
    let set = slice_index_or table.eligible k 0 in
    let pot : IsPotOf deal k set = table_pot deal table.known.count table.pots table.eligible k refl hands table.in_hands table.known.few below in
    (set, pot, λ i d inside. c.law_pots_are_given_out.ensures.high deal (slice_index_or (runouts_after deal.state) i d) k game (players k below) (few_eligible deal k set pot few)))

pub returns-clause-low : goal.returns-clause-low
returns-clause-low c pots game lows =
    let table = c.args.table.now in
    let deal = deal_of table in
    let hands : length deal.state.hands ≡ table.known.count = omega (arith, length-take table.known.count table.known.hands, c.ten_hands.ensures, table.known.few) in
    let few : length deal.state.hands ≤ 10 = omega (arith, hands, table.known.few) in
    all_given pots deal (λ k below.
    let set = slice_index_or table.eligible k 0 in
    let pot : IsPotOf deal k set = table_pot deal table.known.count table.pots table.eligible k refl hands table.in_hands table.known.few below in
    (set, pot, λ i d inside. c.law_pots_are_given_out.ensures.low deal (slice_index_or (runouts_after deal.state) i d) k game (lows k below i d inside) (few_eligible deal k set pot few)))
