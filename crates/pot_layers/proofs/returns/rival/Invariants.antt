use Rattle.std.specs.Prelude.{◌≡◌, drop, max}
use Rattle.pot_layers.specs.Uncalled.{rival}
use Rattle.pot_layers.proofs.returns.rival.Given as goal

abbrev pub invariant-loop-player : goal.invariant-loop-player
invariant-loop-player l = rival l.paid l.seat ≡ max l.greatest (rival (drop l.player-index l.paid) l.seat)
