use Rattle.std.proofs.Common.{◌≡◌, ◌+◌, ◌-◌, ◌∙◌, length, ap, arith}
use Rattle.card_sets.specs.Cards.{minus}
use Rattle.card_sets.specs.Disjoint.{apart}
use Rattle.hand_ranges.specs.Boards.{boards_add, open_cards}
use Rattle.range_lines.specs.RangeSpot.{ranges_in}
use Rattle.hand_ranges.proofs.BoardSums.{open_apart, open_unseen}
use Rattle.hand_ranges.proofs.BoardTallies.{AreOverBoards, boards_tally, few_choices, few_ways}
use Rattle.range_lines.proofs.CallerLemmas.{most_few, runouts_some}
use Rattle.hand_ranges.proofs.boards.count_by_boards.Goals as goal

pub add_boards-requires-clause-apart : goal.add_boards-requires-clause-apart
add_boards-requires-clause-apart c =
    let spot = ranges_in c.args.spot.now in
    let same : c.minus-open.result ≡ open_cards spot.board spot.dead = c.minus-open.ensures.value ∙ ap (λ cards. minus cards spot.dead) (c.minus.ensures.value ∙ ap (λ cards. minus cards spot.board) c.deck.ensures) in
    ap (λ cards. apart cards spot.board) same ∙ open_apart spot.board spot.dead

pub add_boards-requires-clause-few : goal.add_boards-requires-clause-few
add_boards-requires-clause-few c =
    let spot = ranges_in c.args.spot.now in
    let none = c.new-ends.ensures (λ set. 0) 1 in
    omega (arith, none, few_ways (length c.minus-open.result) (5 - c.count.result) _ (omega (arith, c.count-few.ensures.value, c.count-few.ensures.bound)) (most_few spot c.requires.sound c.requires.within))

pub tally-requires-clause-some : goal.tally-requires-clause-some
tally-requires-clause-some c = omega (arith, c.requires.runouts, runouts_some (ranges_in c.args.spot.now) c.requires.sound)

pub tally-requires-clause-within : goal.tally-requires-clause-within
tally-requires-clause-within c =
    let spot = ranges_in c.args.spot.now in
    let none = c.new-ends.ensures (λ set. 0) 1 in
    omega (arith, none, few_ways (length c.minus-open.result) (5 - c.count.result) _ (omega (arith, c.count-few.ensures.value, c.count-few.ensures.bound)) (most_few spot c.requires.sound c.requires.within), c.add_boards.ensures.few, c.add_boards.ensures.within)

pub tally-requires-clause-choices : goal.tally-requires-clause-choices
tally-requires-clause-choices c =
    let spot = ranges_in c.args.spot.now in
    let ends = c.add_boards.new.ends in
    let same : c.minus-open.result ≡ open_cards spot.board spot.dead = c.minus-open.ensures.value ∙ ap (λ cards. minus cards spot.dead) (c.minus.ensures.value ∙ ap (λ cards. minus cards spot.board) c.deck.ensures) in
    let over : AreOverBoards spot ends = λ by_set each.
    c.add_boards.ensures.grows by_set each ∙ ap (λ n. n + boards_add spot.ranges spot.board (5 - c.count.result) c.minus-open.result by_set each) (c.new-ends.ensures by_set each)
    ∙ (let z : 0 + boards_add spot.ranges spot.board (5 - c.count.result) c.minus-open.result by_set each ≡ boards_add spot.ranges spot.board (5 - c.count.result) c.minus-open.result by_set each = omega arith in z)
    ∙ ap (λ n. boards_add spot.ranges spot.board (5 - n) c.minus-open.result by_set each) c.count.ensures.value
    ∙ ap (λ cards. boards_add spot.ranges spot.board (5 - length spot.board) cards by_set each) (same ∙ open_unseen spot.board spot.dead) in
    let few = few_choices spot ends c.args.runouts c.requires.sound c.law_values_keep_order.ensures over c.requires.runouts c.requires.within in
    omega (arith, few)

pub returns : goal.returns
returns c = λ column.
    let spot = ranges_in c.args.spot.now in
    let ends = c.add_boards.new.ends in
    let same : c.minus-open.result ≡ open_cards spot.board spot.dead = c.minus-open.ensures.value ∙ ap (λ cards. minus cards spot.dead) (c.minus.ensures.value ∙ ap (λ cards. minus cards spot.board) c.deck.ensures) in
    let over : AreOverBoards spot ends = λ by_set each.
    c.add_boards.ensures.grows by_set each ∙ ap (λ n. n + boards_add spot.ranges spot.board (5 - c.count.result) c.minus-open.result by_set each) (c.new-ends.ensures by_set each)
    ∙ (let z : 0 + boards_add spot.ranges spot.board (5 - c.count.result) c.minus-open.result by_set each ≡ boards_add spot.ranges spot.board (5 - c.count.result) c.minus-open.result by_set each = omega arith in z)
    ∙ ap (λ n. boards_add spot.ranges spot.board (5 - n) c.minus-open.result by_set each) c.count.ensures.value
    ∙ ap (λ cards. boards_add spot.ranges spot.board (5 - length spot.board) cards by_set each) (same ∙ open_unseen spot.board spot.dead) in
    c.tally.ensures column ∙ boards_tally spot ends _ c.args.runouts c.requires.sound c.law_values_keep_order.ensures over (omega (arith, c.requires.sound.four, c.len.ensures)) c.requires.runouts column
