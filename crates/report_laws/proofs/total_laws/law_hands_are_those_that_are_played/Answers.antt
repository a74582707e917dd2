use Rattle.report_laws.proofs.TotalLaws.{played_over}
use Rattle.report_laws.proofs.total_laws.law_hands_are_those_that_are_played.Goals as goal

pub returns : goal.returns
returns c = played_over
