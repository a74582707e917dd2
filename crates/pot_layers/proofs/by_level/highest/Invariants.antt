use Rattle.std.specs.Prelude.{◌≡◌, drop, max}
use Rattle.pot_layers.specs.Pots.{highest}
use Rattle.pot_layers.proofs.by_level.highest.Given as goal

abbrev pub invariant-loop-player : goal.invariant-loop-player
invariant-loop-player l = highest l.paid ≡ max l.greatest (highest (drop l.player-index l.paid))
