use Rattle.betting_replay.proofs.CallerLemmas.{chips_stay}
use Rattle.hand_laws.proofs.turns.law_chips_stay.Goals as goal

pub returns : goal.returns
returns c = chips_stay
