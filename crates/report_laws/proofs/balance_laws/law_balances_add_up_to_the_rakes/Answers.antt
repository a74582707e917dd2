use Rattle.report_laws.proofs.BalanceLaws.{loses_rakes}
use Rattle.report_laws.proofs.balance_laws.law_balances_add_up_to_the_rakes.Goals as goal

pub returns : goal.returns
returns c = loses_rakes c.law_nets_add_up_to_the_rake.ensures
