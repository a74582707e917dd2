use Rattle.report_laws.proofs.BalancedNames.{balanced_distinct}
use Rattle.report_laws.proofs.balance_laws.law_nobody_is_balanced_twice.Goals as goal

pub returns : goal.returns
returns c = balanced_distinct
