use Rattle.hand_laws.proofs.lemmas.cards.LastDraws.{tells}
use Rattle.hand_laws.proofs.cards.law_the_last_draw.Goals as goal

pub returns : goal.returns
returns c = tells
