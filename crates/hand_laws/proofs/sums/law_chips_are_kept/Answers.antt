use Rattle.hand_laws.proofs.lemmas.chips.KeptChips.{accepted_kept}
use Rattle.hand_laws.proofs.sums.law_chips_are_kept.Goals as goal

pub returns : goal.returns
returns c = accepted_kept
