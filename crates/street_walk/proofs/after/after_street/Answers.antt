use Rattle.std.proofs.Common.{◌≡◌, ℕ, List, length, ap, ◌∙◌, arith}
use Rattle.card_sets.specs.Cards.{union}
use Rattle.card_sets.specs.State.{State, state_of}
use Rattle.runout_ranges.specs.Runouts.{HasMember}
use Rattle.runout_ranges.specs.Slots.{dealt}
use Rattle.runout_ranges.specs.Shapes.{slots_of}
use Rattle.runout_ranges.specs.declared.shapes.Receiver.TheVariants.{Board}
use Rattle.runout_ranges.specs.declared.shapes.Shape.{Shape}
use Rattle.street_walk.specs.Streets.{IsNextOf, next_slots, hands_after, after}
use Rattle.street_walk.proofs.AfterStreet.{of_next, step_length}
use Rattle.street_walk.proofs.KnownAfter.{apart_after, fit_after, front_after}
use Rattle.street_walk.proofs.after.after_street.Goals as goal

-- what the step's slots deal is what those of the next street do
hands_of_step : (s : State) (step : Shape) (new own sets r : List (List ℕ)) → IsNextOf s step → new ≡ hands_after (slots_of step) sets 0 own → sets ≡ r → new ≡ hands_after (next_slots s) r 0 own
hands_of_step s step new own sets r next e same = e ∙ ap (λ l. hands_after (slots_of step) l 0 own) same ∙ ap (λ some. hands_after some r 0 own) next.slots

board_of_step : (s : State) (step : Shape) (new more board : List ℕ) (sets r : List (List ℕ)) → IsNextOf s step → new ≡ union board more → more ≡ dealt (slots_of step) sets Board → sets ≡ r → new ≡ union board (dealt (next_slots s) r Board)
board_of_step s step new more board sets r next e d same = e ∙ ap (λ c. union board c) (d ∙ ap (λ l. dealt (slots_of step) l Board) same ∙ ap (λ some. dealt some r Board) next.slots)

pub deal_hands-requires-clause-sets : goal.deal_hands-requires-clause-sets
deal_hands-requires-clause-sets c = ap length c.sets-sets.ensures ∙ step_length c.args.step.now c.args.r.now c.requires.choice

pub dealt_to-requires : goal.dealt_to-requires
dealt_to-requires c = ap length c.sets-sets.ensures ∙ step_length c.args.step.now c.args.r.now c.requires.choice

pub invariant_of-result-clause-disjoint : goal.invariant_of-result-clause-disjoint
invariant_of-result-clause-disjoint c =
    let known = c.args.known.now in
    let s = state_of known in
    apart_after known.game known.count known.hands c.deal_hands.new.hands c.args.r.now known.board known.dead c.union.result known.disjoint known.unused
    (of_next (λ all. HasMember all c.args.r.now) s c.args.step.now c.requires.next c.requires.choice)
    (hands_of_step s c.args.step.now c.deal_hands.new.hands s.hands c.sets-sets.result.now c.args.r.now c.requires.next c.deal_hands.ensures c.sets-sets.ensures)
    (board_of_step s c.args.step.now c.union.result c.dealt_to.result known.board c.sets-sets.result.now c.args.r.now c.requires.next c.union.ensures c.dealt_to.ensures c.sets-sets.ensures)

pub invariant_of-result-clause-fitting : goal.invariant_of-result-clause-fitting
invariant_of-result-clause-fitting c =
    let known = c.args.known.now in
    let s = state_of known in
    fit_after known.game known.count known.hands c.deal_hands.new.hands c.args.r.now known.board known.dead c.union.result known.fitting c.known_sets.ensures.sets
    (of_next (λ all. HasMember all c.args.r.now) s c.args.step.now c.requires.next c.requires.choice)
    (hands_of_step s c.args.step.now c.deal_hands.new.hands s.hands c.sets-sets.result.now c.args.r.now c.requires.next c.deal_hands.ensures c.sets-sets.ensures)
    (board_of_step s c.args.step.now c.union.result c.dealt_to.result known.board c.sets-sets.result.now c.args.r.now c.requires.next c.union.ensures c.dealt_to.ensures c.sets-sets.ensures)

pub invariant_of-result-clause-unused : goal.invariant_of-result-clause-unused
invariant_of-result-clause-unused c =
    let known = c.args.known.now in
    let front = front_after (slots_of c.args.step.now) known.count known.hands c.deal_hands.new.hands c.sets-sets.result.now (omega (arith, known.few, c.known_sets.ensures.ten)) c.deal_hands.ensures in
    rw (front.1) known.unused

pub returns-clause-known : goal.returns-clause-known
returns-clause-known c =
    let known = c.args.known.now in
    let s = state_of known in
    let front = front_after (slots_of c.args.step.now) known.count known.hands c.deal_hands.new.hands c.sets-sets.result.now (omega (arith, known.few, c.known_sets.ensures.ten)) c.deal_hands.ensures in
    let hands = front.0 ∙ hands_of_step s c.args.step.now c.deal_hands.new.hands s.hands c.sets-sets.result.now c.args.r.now c.requires.next c.deal_hands.ensures c.sets-sets.ensures in
    let board = board_of_step s c.args.step.now c.union.result c.dealt_to.result known.board c.sets-sets.result.now c.args.r.now c.requires.next c.union.ensures c.dealt_to.ensures c.sets-sets.ensures in
    let state : List (List ℕ) → List ℕ → State = λ h b. record { game = known.game; hands = h; board = b; dead = known.dead } in
    ap (λ h. state h c.union.result) hands ∙ ap (λ b. state (after s c.args.r.now).hands b) board
