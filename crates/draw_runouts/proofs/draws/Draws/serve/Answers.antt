use Rattle.std.proofs.Common.{◌≡◌, ◌<◌, length, sym, ap, ◌∙◌, arith}
use Rattle.card_sets.specs.State.{State, state_of}
use Rattle.runout_ranges.specs.Shapes.{slots_of}
use Rattle.runout_ranges.specs.Slots.{slots}
use Rattle.draw_runouts.specs.Draws.{last_hand}
use Rattle.runout_walk.specs.Listing.{last_count}
use Rattle.draw_runouts.proofs.DrawLeaf.{draws_parts, few_of_two, last_inside}
use Rattle.draw_runouts.proofs.DrawSlots.{some_slots}
use Rattle.draw_runouts.proofs.draws.Draws.serve.Goals as goal

pub hand_of-own-requires : goal.hand_of-own-requires
hand_of-own-requires c =
    let known = c.args.table.now.known in
    let st : State = state_of known in
    let lacking : slots_of c.args.shape.now ≡ slots st = c.requires.shape.lacking in
    let parts = draws_parts known.game (last_count (slots_of c.args.shape.now)) c.requires.draws in
    let some : 0 < length (slots st) = some_slots (slots st) (let e = ap last_count lacking in omega (arith, parts.1, e)) in
    let inside = last_inside st parts.0 some in
    let hand : c.last_slot-last.result.hand ≡ last_hand (slots st) = c.last_slot-last.ensures.hand ∙ ap last_hand lacking in
    omega (arith, inside.0, hand)

pub invariant_of-self-clause-last_is : goal.invariant_of-self-clause-last_is
invariant_of-self-clause-last_is c = c.last_slot-last.ensures.hand ∙ ap last_hand c.requires.shape.lacking

pub serve_where-requires-clause-few : goal.serve_where-requires-clause-few
serve_where-requires-clause-few c = λ wanted.
    let few = few_of_two c.args.table.now.known.game (last_count (slots_of c.args.shape.now)) c.requires.draws (sym c.has_two_sides.ensures ∙ wanted) in
    omega (arith, few, c.last_slot-last.ensures.count)

pub invariant_of-self-clause-low_few : goal.invariant_of-self-clause-low_few
invariant_of-self-clause-low_few c = λ two.
    let few = few_of_two c.args.table.now.known.game (last_count (slots_of c.args.shape.now)) c.requires.draws two in
    omega (arith, few, c.last_slot-last.ensures.count)
