use Rattle.std.proofs.Common.{◌≡◌, drop}
use Rattle.spot_text.specs.Games.{named_among}
use Rattle.spot_text.proofs.games.named_among.Given as goal

abbrev pub invariant-loop-game : goal.invariant-loop-game
invariant-loop-game l = named_among (drop l.game-index l.games) l.word ≡ named_among l.games l.word
