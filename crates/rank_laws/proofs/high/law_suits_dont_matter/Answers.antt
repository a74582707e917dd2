use Rattle.rank_laws.proofs.HandCategories.{suits_lem}
use Rattle.rank_laws.proofs.high.law_suits_dont_matter.Goals as goal

pub returns : goal.returns
returns c = suits_lem
