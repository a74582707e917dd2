use Rattle.card_sets.specs.State.{state_of}
use Rattle.street_walk.proofs.StreetLaw.{street_law}
use Rattle.street_walk.proofs.laws.law_streets_add_up.Goals as goal

pub returns : goal.returns
returns c pots = street_law record { state = state_of c.args.known.now; pots = pots } c.known_sets.ensures.sets
