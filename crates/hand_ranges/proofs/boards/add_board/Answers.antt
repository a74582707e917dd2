use Rattle.std.proofs.Common.{◌≡◌, ◌+◌, ◌∙◌, map, filter, take, sym, ap, subst, arith}
use Rattle.hand_ranges.specs.Boards.{AllShown, adds_beside, is_off, ranges_shown, shown_of, worth}
use Rattle.range_lines.specs.Choices.{most_choices, walked}
use Rattle.range_lines.specs.RangeSpot.{ranges_in}
use Rattle.hand_ranges.proofs.ShownChoices.{all_of_front, all_shown, most_off, ranges_again}
use Rattle.hand_ranges.proofs.boards.add_board.Goals as goal

pub add_shown-requires-clause-shown : goal.add_shown-requires-clause-shown
add_shown-requires-clause-shown c =
    let spot = ranges_in c.args.spot.now in
    let lists : take c.len-count.result c.loop-place.room ≡ map (shown_of c.args.full) spot.ranges = all_of_front c.args.full c.loop-place.room spot.ranges c.loop-place.place c.len-count.result c.loop-place.invariant.front c.loop-place-test.false c.loop-place.auto.place-end (omega (arith, c.len-count.ensures)) in
    subst (AllShown c.args.full) (sym lists) (all_shown spot.board spot.dead c.args.full spot.ranges c.requires.sound.each)

pub add_shown-requires-clause-few : goal.add_shown-requires-clause-few
add_shown-requires-clause-few c =
    let spot = ranges_in c.args.spot.now in
    let lists : take c.len-count.result c.loop-place.room ≡ map (shown_of c.args.full) spot.ranges = all_of_front c.args.full c.loop-place.room spot.ranges c.loop-place.place c.len-count.result c.loop-place.invariant.front c.loop-place-test.false c.loop-place.auto.place-end (omega (arith, c.len-count.ensures)) in
    let most = ap (λ l. most_choices (ranges_shown l)) lists ∙ ap most_choices (ranges_again c.args.full spot.ranges) in
    omega (arith, most, most_off (is_off c.args.full) spot.ranges, c.requires.few)

pub returns-clause-grows : goal.returns-clause-grows
returns-clause-grows c = λ by_set each.
    let spot = ranges_in c.args.spot.now in
    let number = adds_beside c.args.full by_set each in
    let lists : take c.len-count.result c.loop-place.room ≡ map (shown_of c.args.full) spot.ranges = all_of_front c.args.full c.loop-place.room spot.ranges c.loop-place.place c.len-count.result c.loop-place.invariant.front c.loop-place-test.false c.loop-place.auto.place-end (omega (arith, c.len-count.ensures)) in
    c.add_shown.ensures.grows by_set each
    ∙ ap (λ n. worth c.args.ends.now by_set each + n)
    (ap (λ l. walked (ranges_shown l) (take c.none.result.count c.none.result.hands) number) lists ∙ ap (λ l. walked l (take c.none.result.count c.none.result.hands) number) (ranges_again c.args.full spot.ranges) ∙ ap (λ t. walked (map (filter (is_off c.args.full)) spot.ranges) t number) c.none.ensures)

pub returns-clause-few : goal.returns-clause-few
returns-clause-few c =
    let spot = ranges_in c.args.spot.now in
    let lists : take c.len-count.result c.loop-place.room ≡ map (shown_of c.args.full) spot.ranges = all_of_front c.args.full c.loop-place.room spot.ranges c.loop-place.place c.len-count.result c.loop-place.invariant.front c.loop-place-test.false c.loop-place.auto.place-end (omega (arith, c.len-count.ensures)) in
    let most = ap (λ l. most_choices (ranges_shown l)) lists ∙ ap most_choices (ranges_again c.args.full spot.ranges) in
    omega (arith, most, most_off (is_off c.args.full) spot.ranges, c.add_shown.ensures.few)
