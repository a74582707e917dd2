use Rattle.card_sets.specs.State.{state_of}
use Rattle.showdown_tally.proofs.CallerLemmas.{known_sound}
use Rattle.street_walk.proofs.CardsAfter.{goes_on}
use Rattle.street_walk.proofs.laws.law_streets_go_on.Goals as goal

pub returns : goal.returns
returns c sets member =
    let known = c.args.known.now in
    goes_on (state_of known) sets c.known_sets.ensures.sets (known_sound known.game known.count known.hands known.board known.dead known.disjoint known.fitting) member
