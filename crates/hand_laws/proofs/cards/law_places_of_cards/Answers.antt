use Rattle.betting_replay.proofs.CallerLemmas.{thrown_nobody}
use Rattle.hand_laws.proofs.lemmas.cards.PlacesSince.{since_is, first_is, stays_thrown}
use Rattle.hand_laws.proofs.cards.law_places_of_cards.Goals as goal

pub returns : goal.returns
returns c = record { behind = since_is; first = first_is; stays = stays_thrown; nobody = λ header players h card ok again has. thrown_nobody header players h card ok again has }
