use Rattle.hand_laws.proofs.lemmas.turns.TurnOrder.{nobody_passed, passes_over}
use Rattle.hand_laws.proofs.turns.law_nobody_is_passed_over.Goals as goal

pub returns : goal.returns
returns c = record { stands = nobody_passed; refused = passes_over }
