use Rattle.hand_choice.proofs.FiveSets.{allowed-AreFives}
use Rattle.hand_choice.proofs.laws.law_fives_have_five_cards.Goals as goal

pub returns : goal.returns
returns c = allowed-AreFives
