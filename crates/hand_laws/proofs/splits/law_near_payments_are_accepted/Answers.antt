use Rattle.hand_laws.proofs.lemmas.splits.NearPayments.{near_is_accepted}
use Rattle.hand_laws.proofs.splits.law_near_payments_are_accepted.Goals as goal

pub returns : goal.returns
returns c = near_is_accepted
