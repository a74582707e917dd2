use Rattle.betting_replay.proofs.lemmas.places.CardsBelong.{places_apart}
use Rattle.betting_replay.proofs.laws.law_places_are_apart.Goals as goal

pub returns : goal.returns
returns c = places_apart
