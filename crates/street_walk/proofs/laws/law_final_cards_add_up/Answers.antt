use Rattle.card_sets.specs.State.{state_of}
use Rattle.street_walk.proofs.StreetLaw.{final_law}
use Rattle.street_walk.proofs.laws.law_final_cards_add_up.Goals as goal

pub returns : goal.returns
returns c number = final_law (state_of c.args.known.now) number c.known_sets.ensures.sets
