use Rattle.std.proofs.Common.{ap}
use Rattle.card_sets.proofs.games.Game.word.Goals as goal

pub returns : goal.returns
returns c = ap (λ texts. texts.0) c.texts.ensures
