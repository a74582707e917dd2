use Rattle.omaha_ranks.proofs.LowCards.{only_low_cards}
use Rattle.omaha_ranks.proofs.laws.law_only_low_cards.Goals as goal

pub returns : goal.returns
returns c = only_low_cards
