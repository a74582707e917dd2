use Rattle.std.proofs.Common.{◌≡◌, length, arith}
use Rattle.card_sets.specs.declared.games.Side.TheVariants.{High}
use Rattle.showdown_tally.specs.Cells.{cell_at, units_at}
use Rattle.range_lines.specs.RangeSpot.{ranges_in}
use Rattle.hand_ranges.specs.Taken.{chosen}
use Rattle.hand_ranges.proofs.TallySums.{count_of_choice}
use Rattle.hand_ranges.proofs.counts.add_choice.Goals as goal

pub returns-clause-grows : goal.returns-clause-grows
returns-clause-grows c = λ column.
    let spot = ranges_in c.args.spot.now in
    let choice = chosen c.args.taken.now in
    let tally = c.count_choice.new.tally in
    let all : c.args.taken.now.count ≡ length spot.ranges = omega (arith, c.facts.ensures.count, c.requires.walk.all) in
    let few = c.facts.ensures.few in
    let same = count_of_choice spot choice c.args.taken.now.count c.args.taken.now.weight (λ h. cell_at tally 0 h High) (λ h. units_at tally 0 h) all c.facts.ensures.product
    (λ h l. c.count_choice.ensures.cells 0 h High (omega arith) (omega arith)) (λ h l. c.count_choice.ensures.units 0 h (omega arith) (omega arith)) column in
    let grown = c.add_count.ensures.grows column in
    omega (arith, grown, same)
