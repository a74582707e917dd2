use Rattle.std.proofs.Common.{◌≡◌, ap, subst, arith}
use Rattle.range_lines.specs.Choices.{most_choices}
use Rattle.range_lines.specs.RangeSpot.{ranges_in}
use Rattle.hand_ranges.specs.Taken.{chosen}
use Rattle.range_lines.specs.Walks.{Choices, GrowsBy, all_added}
use Rattle.range_lines.proofs.CallerLemmas.{most_few}
use Rattle.hand_ranges.proofs.WalkSums.{all_walked}
use Rattle.hand_ranges.proofs.counts.count_by_choices.Goals as goal

pub add_choices-requires-clause-few : goal.add_choices-requires-clause-few
add_choices-requires-clause-few c =
    let spot = ranges_in c.args.spot.now in
    let none = c.no_tally-total.ensures Choices in
    let few = most_few spot c.requires.sound c.requires.within in
    let same : most_choices c.deref.result.now ≡ most_choices spot.ranges = ap most_choices c.deref.ensures.value in
    omega (arith, none, few, same)

pub returns : goal.returns
returns c =
    let spot = ranges_in c.args.spot.now in
    let grows : GrowsBy c.no_tally-total.result c.add_choices.new.total (λ column. all_added spot spot.ranges (chosen c.none.result) column) =
    subst (λ rs. GrowsBy c.no_tally-total.result c.add_choices.new.total (λ column. all_added spot rs (chosen c.none.result) column)) c.deref.ensures.value c.add_choices.ensures.grows in
    all_walked spot c.no_tally-total.result c.add_choices.new.total (chosen c.none.result) c.none.ensures c.no_tally-total.ensures grows
