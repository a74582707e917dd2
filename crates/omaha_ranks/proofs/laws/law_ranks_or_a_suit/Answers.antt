use Rattle.omaha_ranks.proofs.TwoParts.{ranks_or_a_suit}
use Rattle.omaha_ranks.proofs.laws.law_ranks_or_a_suit.Goals as goal

pub returns : goal.returns
returns c = ranks_or_a_suit
