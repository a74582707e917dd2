use Rattle.rank_laws.proofs.Categories.{category-IsUsual}
use Rattle.rank_laws.proofs.high.law_categories_are_usual.Goals as goal

pub returns : goal.returns
returns c = category-IsUsual
