use Rattle.report_laws.proofs.BalancedNames.{balanced_by_unit}
use Rattle.report_laws.proofs.balance_laws.law_no_name_is_balanced_over_two_units.Goals as goal

pub returns : goal.returns
returns c = balanced_by_unit
