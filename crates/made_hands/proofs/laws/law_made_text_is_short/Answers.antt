use Rattle.std.proofs.Common.{arith}
use Rattle.made_hands.proofs.TextLength.{hands_short}
use Rattle.made_hands.proofs.laws.law_made_text_is_short.Goals as goal

pub returns : goal.returns
returns c = λ seed hands few. hands_short 1 seed hands (omega arith)
