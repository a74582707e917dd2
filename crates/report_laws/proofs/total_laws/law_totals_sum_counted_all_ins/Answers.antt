use Rattle.report_laws.proofs.AllInTotals.{sum_all_ins}
use Rattle.report_laws.proofs.total_laws.law_totals_sum_counted_all_ins.Goals as goal

pub returns : goal.returns
returns c = sum_all_ins
