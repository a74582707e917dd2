use Rattle.showdown_tally.proofs.BothSides.{pot-AddUp-high, pot-AddUp-low}
use Rattle.showdown_tally.proofs.laws.law_pots_are_given_out.Goals as goal

pub returns-clause-high : goal.returns-clause-high
returns-clause-high c = pot-AddUp-high

pub returns-clause-low : goal.returns-clause-low
returns-clause-low c = pot-AddUp-low
