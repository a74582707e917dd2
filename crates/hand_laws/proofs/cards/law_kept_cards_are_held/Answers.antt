use Rattle.hand_laws.proofs.lemmas.cards.KeptCards.{still_holds}
use Rattle.hand_laws.proofs.cards.law_kept_cards_are_held.Goals as goal

pub returns : goal.returns
returns c = still_holds
