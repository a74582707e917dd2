use Rattle.report_laws.proofs.NearestUnits.{expect_is_nearest}
use Rattle.report_laws.proofs.expect_laws.law_expectations_are_rounded_once.Goals as goal

pub returns : goal.returns
returns c = expect_is_nearest
