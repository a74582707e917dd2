use Rattle.hand_laws.proofs.lemmas.splits.RightSplits.{accepted_split}
use Rattle.hand_laws.proofs.splits.law_pots_are_split_by_the_rules.Goals as goal

pub returns : goal.returns
returns c = accepted_split
