use Rattle.std.proofs.Common.{◌<◌, ◌∙◌, length, take, get_or, ap, arith}
use Rattle.std.proofs.lemmas.List.{length-take}
use Rattle.hand_ranges.proofs.ShownChoices.{length_shown_of}
use Rattle.range_lines.proofs.CallerLemmas.{hand_at}
use Rattle.hand_ranges.proofs.beside.ShownRange.fill.Goals as goal

pub value_beside-requires-clause-two : goal.value_beside-requires-clause-two
value_beside-requires-clause-two c =
    let range = c.args.range.now in
    let i = c.loop-w.w-index in
    let inside : i < length range = omega (arith, c.loop-w-test.true, ap length c.hands-w-items.ensures) in
    ap (λ v. length v.hand) (c.w-item.is ∙ ap (λ l. get_or l i c.w-item.result) c.hands-w-items.ensures)
    ∙ (hand_at c.args.spot.now.board c.args.spot.now.dead range i c.w-item.result c.requires.each inside).two

pub add-requires : goal.add-requires
add-requires c =
    let range = c.args.range.now in
    let i = c.loop-w.w-index in
    omega (arith, ap length c.loop-w.invariant, length_shown_of c.args.full (take i range), length-take i range, c.loop-w-test.true, ap length c.hands-w-items.ensures, c.requires.few)
