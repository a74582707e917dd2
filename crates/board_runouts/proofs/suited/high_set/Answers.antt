use Rattle.std.proofs.Common.{◌∙◌}
use Rattle.board_runouts.proofs.suited.high_set.Goals as goal

pub returns-clause-set : goal.returns-clause-set
returns-clause-set c = λ value agree. (c.pot_best.ensures.best value (λ h l. c.highs_with-highs.ensures h l ∙ agree h l)).1
