use Rattle.report_laws.proofs.UnknownWinners.{settles_what_is_known}
use Rattle.report_laws.proofs.settle_laws.law_what_is_unknown_is_not_settled.Goals as goal

pub returns : goal.returns
returns c = settles_what_is_known
