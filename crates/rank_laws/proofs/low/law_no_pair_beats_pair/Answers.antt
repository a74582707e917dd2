use Rattle.rank_laws.proofs.LowHands.{no_pair_beats_pair}
use Rattle.rank_laws.proofs.low.law_no_pair_beats_pair.Goals as goal

pub returns : goal.returns
returns c = no_pair_beats_pair
