use Rattle.std.proofs.Common.{◌∙◌, ap, refl}
use Rattle.std.specs.Prelude.{map}
use Rattle.std.proofs.lemmas.Result.{IfOk-weaker}
use Rattle.hand_audit.specs.PotSeats.{eligible_of}
use Rattle.hand_audit.specs.Streets.{state_on}
use Rattle.hand_audit.proofs.lemmas.later_streets.LaterStates.{states_kept}
use Rattle.hand_audit.proofs.streets.states_of.Goals as goal

pub returns : goal.returns
returns c =
    let g = c.args.header.now in
    let state = c.args.state.now in
    IfOk-weaker c.states_on.result _ _ (λ states made players so_far k settled.
    made ∙ ap (map (state_on g.game state.replay (eligible_of c.args.settled.now.pots))) c.deref.ensures.value
    ∙ states_kept state c.args.settled.now g players so_far (eligible_of c.args.settled.now.pots) k settled refl) c.states_on.ensures
