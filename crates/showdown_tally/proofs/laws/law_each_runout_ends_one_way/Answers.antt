use Rattle.showdown_tally.proofs.WholePots.{cells-EndsOneWay}
use Rattle.showdown_tally.proofs.laws.law_each_runout_ends_one_way.Goals as goal

pub returns : goal.returns
returns c = cells-EndsOneWay
