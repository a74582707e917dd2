use Rattle.report_laws.proofs.ReadBackFacts.{line-IsReadBack, line-HasThirteen}
use Rattle.report_laws.proofs.line_laws.law_a_record_is_read_back.Goals as goal

pub returns-clause-fields : goal.returns-clause-fields
returns-clause-fields c = line-IsReadBack

pub returns-clause-thirteen : goal.returns-clause-thirteen
returns-clause-thirteen c = line-HasThirteen
