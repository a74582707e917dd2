use Rattle.std.proofs.Common.{sym, subst}
use Rattle.range_lines.specs.Walks.{AreFew}
use Rattle.range_lines.proofs.CallerLemmas.{ranges_few}
use Rattle.hand_ranges.proofs.counts.are_few.Goals as goal

pub most_choices-requires-clause-few : goal.most_choices-requires-clause-few
most_choices-requires-clause-few c =
    let spot = c.args.spot.now in
    subst AreFew (sym c.deref.ensures.value) (ranges_few spot.board spot.dead spot.ranges.items c.requires.each)

pub all_hands-requires-clause-few : goal.all_hands-requires-clause-few
all_hands-requires-clause-few c =
    let spot = c.args.spot.now in
    subst AreFew (sym c.deref-in-3.ensures.value) (ranges_few spot.board spot.dead spot.ranges.items c.requires.each)
