use Rattle.hand_laws.proofs.lemmas.dues.PartDues.{give_dues}
use Rattle.hand_laws.proofs.splits.law_parts_give_what_is_due.Goals as goal

pub returns : goal.returns
returns c = give_dues
