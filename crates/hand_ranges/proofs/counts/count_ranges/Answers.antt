use Rattle.std.proofs.Common.{◌∙◌, sym, eq-eqb, ne_eqb}
use Rattle.range_lines.specs.RangeSpot.{ranges_in}
use Rattle.hand_ranges.proofs.WalkSums.{no_choice, none_beyond, tally_of}
use Rattle.hand_ranges.proofs.counts.count_ranges.Goals as goal

pub returns-then-total-eq0-clause-count : goal.returns-then-total-eq0-clause-count
returns-then-total-eq0-clause-count c =
    let all = no_choice (ranges_in c.args.spot.now) c.count_all-total.result c.count_all-total.ensures in
    (sym c.are_above.ensures ∙ c.if-are_above.false, eq-eqb _ 0 (all ∙ c.if-total-eq0.true))

pub returns-clause-count : goal.returns-clause-count
returns-clause-count c =
    let spot = ranges_in c.args.spot.now in
    let all = no_choice spot c.count_all-total.result c.count_all-total.ensures in (
      sym c.are_above.ensures ∙ c.if-are_above.false,
      ne_eqb _ 0 (λ z. c.if-total-eq0.false (sym all ∙ z)),
      tally_of spot c.count_all-total.result c.count_all-total.ensures c.runouts_of_choice-runouts.result c.runouts_of_choice-runouts.ensures c.requires.four c.four_places.ensures.cells,
    )

pub returns-clause-beyond : goal.returns-clause-beyond
returns-clause-beyond c = none_beyond (ranges_in c.args.spot.now) c.count_all-total.result c.count_all-total.ensures
