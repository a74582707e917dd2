use Rattle.rank_laws.proofs.Straights.{straight-IsUsual}
use Rattle.rank_laws.proofs.high.law_straights_are_usual.Goals as goal

pub returns : goal.returns
returns c = straight-IsUsual
