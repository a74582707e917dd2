use Rattle.std.proofs.Common.{rules, ◌≡◌, ◌<◌, ◌+◌, ◌-◌, ◌*◌, ◌∙◌, length, sym, ap, true, arith}
use Rattle.card_sets.specs.Disjoint.{apart}
use Rattle.hand_ranges.specs.Boards.{boards_add, worth}
use Rattle.range_lines.specs.Choices.{most_choices}
use Rattle.runout_ranges.specs.Ways.{binomial}
use Rattle.runout_ranges.proofs.CallerLemmas.{nothing}
use Rattle.hand_ranges.proofs.BoardSums.{FirstCard, boards_empty, boards_none, boards_split, first_card, ways_split}
use Rattle.hand_ranges.proofs.boards.+add_boards.Goals as goal

pub returns-then-missing-eq0-clause-grows : goal.returns-then-missing-eq0-clause-grows
returns-then-missing-eq0-clause-grows t c = λ by_set each.
    c.add_board.ensures.grows by_set each
    ∙ ap (λ n. worth c.args.ends.now by_set each + n) (sym (boards_none c.args.spot.now.ranges.items c.args.board c.args.rest c.args.missing by_set each c.rising.ensures.set c.if-missing-eq0.true))

pub returns-in_default-clause-grows : goal.returns-in_default-clause-grows
returns-in_default-clause-grows t c = λ by_set each.
    let none = boards_empty c.args.spot.now.ranges.items c.args.board c.args.rest c.args.missing by_set each c.if-missing-eq0.false (nothing c.args.rest (sym c.first.ensures.value ∙ c.in_default.is)) in
    omega (arith, none)

pub add_boards-requires : goal.add_boards-requires
add_boards-requires t c =
    let others = c.without-others.result in
    let most = most_choices c.args.spot.now.ranges.items in
    let step : FirstCard c.args.board c.args.rest others c.in-Some.card = first_card c.args.board c.args.rest others c.in-Some.card c.rising.ensures.set c.rising-2.ensures.set c.rising-2.ensures.rising c.requires.apart (sym c.first.ensures.value ∙ c.in-Some.is) c.without-others.ensures in
    let shorter : length c.args.rest ≡ length others + 1 = ap length step.first ∙ omega arith in
    let some : 0 < c.args.missing = search rules in
    let five : length c.with.result + (c.args.missing - 1) ≡ 5 = omega (arith, ap length c.with.ensures, step.longer, c.requires.five, some) in
    let off : apart others c.with.result ≡ true = ap (apart others) c.with.ensures ∙ step.with_apart in
    let ways : binomial (length c.args.rest) c.args.missing * most ≡ binomial (length others) (c.args.missing - 1) * most + binomial (length others) c.args.missing * most = ap (λ n. binomial n c.args.missing * most) shorter ∙ ways_split (length others) c.args.missing most c.if-missing-eq0.false in
    (search rules, (c.requires.sound, (five, (off, (omega (arith, ways, c.requires.few), c.requires.within)))))

pub add_boards-requires-2 : goal.add_boards-requires-2
add_boards-requires-2 t c =
    let others = c.without-others.result in
    let most = most_choices c.args.spot.now.ranges.items in
    let step : FirstCard c.args.board c.args.rest others c.in-Some.card = first_card c.args.board c.args.rest others c.in-Some.card c.rising.ensures.set c.rising-2.ensures.set c.rising-2.ensures.rising c.requires.apart (sym c.first.ensures.value ∙ c.in-Some.is) c.without-others.ensures in
    let shorter : length c.args.rest ≡ length others + 1 = ap length step.first ∙ omega arith in
    let ways : binomial (length c.args.rest) c.args.missing * most ≡ binomial (length others) (c.args.missing - 1) * most + binomial (length others) c.args.missing * most = ap (λ n. binomial n c.args.missing * most) shorter ∙ ways_split (length others) c.args.missing most c.if-missing-eq0.false in
    (search rules, (c.requires.sound, (c.requires.five, (step.apart, (omega (arith, ways, c.requires.few, c.add_boards.ensures.few), c.add_boards.ensures.within)))))

pub returns-clause-grows : goal.returns-clause-grows
returns-clause-grows t c = λ by_set each.
    let others = c.without-others.result in
    let ranges = c.args.spot.now.ranges.items in
    let step : FirstCard c.args.board c.args.rest others c.in-Some.card = first_card c.args.board c.args.rest others c.in-Some.card c.rising.ensures.set c.rising-2.ensures.set c.rising-2.ensures.rising c.requires.apart (sym c.first.ensures.value ∙ c.in-Some.is) c.without-others.ensures in
    let split = boards_split ranges c.args.board c.args.rest others c.in-Some.card c.args.missing by_set each c.if-missing-eq0.false step.first in
    let with = ap (λ b. boards_add ranges b (c.args.missing - 1) others by_set each) c.with.ensures in
    let a = c.add_boards.ensures.grows by_set each in
    let b = c.add_boards-2.ensures.grows by_set each in
    omega (arith, split, with, a, b)

pub returns-clause-few : goal.returns-clause-few
returns-clause-few t c =
    let others = c.without-others.result in
    let most = most_choices c.args.spot.now.ranges.items in
    let step : FirstCard c.args.board c.args.rest others c.in-Some.card = first_card c.args.board c.args.rest others c.in-Some.card c.rising.ensures.set c.rising-2.ensures.set c.rising-2.ensures.rising c.requires.apart (sym c.first.ensures.value ∙ c.in-Some.is) c.without-others.ensures in
    let shorter : length c.args.rest ≡ length others + 1 = ap length step.first ∙ omega arith in
    let ways : binomial (length c.args.rest) c.args.missing * most ≡ binomial (length others) (c.args.missing - 1) * most + binomial (length others) c.args.missing * most = ap (λ n. binomial n c.args.missing * most) shorter ∙ ways_split (length others) c.args.missing most c.if-missing-eq0.false in
    omega (arith, ways, c.add_boards.ensures.few, c.add_boards-2.ensures.few)
