use Rattle.report_laws.proofs.TotalLaws.{listed_distinct}
use Rattle.report_laws.proofs.total_laws.law_no_player_is_listed_twice.Goals as goal

pub returns : goal.returns
returns c = listed_distinct
