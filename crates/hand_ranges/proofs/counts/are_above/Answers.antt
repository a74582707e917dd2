use Rattle.std.proofs.Common.{sym, subst}
use Rattle.range_lines.specs.Walks.{AreFew}
use Rattle.range_lines.proofs.CallerLemmas.{ranges_few}
use Rattle.hand_ranges.proofs.counts.are_above.Goals as goal

pub most_choices-choices-requires-clause-few : goal.most_choices-choices-requires-clause-few
most_choices-choices-requires-clause-few c =
    let spot = c.args.spot.now in
    subst AreFew (sym c.deref.ensures.value) (ranges_few spot.board spot.dead spot.ranges.items c.requires.sound.each)
