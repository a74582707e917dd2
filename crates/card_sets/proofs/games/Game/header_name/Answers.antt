use Rattle.std.proofs.Common.{ap}
use Rattle.card_sets.proofs.games.Game.header_name.Goals as goal

pub returns : goal.returns
returns c = ap (λ texts. texts.1) c.texts.ensures
