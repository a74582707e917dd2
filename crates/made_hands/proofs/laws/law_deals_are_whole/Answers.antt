use Rattle.made_hands.proofs.DrawnNumbers.{nine-deal_of, whole-deal_of}
use Rattle.made_hands.proofs.laws.law_deals_are_whole.Goals as goal

pub returns : goal.returns
returns c = record { nine = nine-deal_of; whole = whole-deal_of }
