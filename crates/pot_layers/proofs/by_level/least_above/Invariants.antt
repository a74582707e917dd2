use Rattle.std.specs.Prelude.{◌≡◌, ℕ, drop, Option, Some, None}
use Rattle.pot_layers.specs.Pots.{least_above, lesser}
use Rattle.pot_layers.proofs.by_level.least_above.Given as goal

-- the lesser of two sums, each of which may be missing
abbrev pub either : Option ℕ → Option ℕ → Option ℕ
either None rest = rest
either (Some sum) rest = lesser rest sum

abbrev pub invariant-loop-player : goal.invariant-loop-player
invariant-loop-player l = least_above l.low l.paid ≡ either l.least (least_above l.low (drop l.player-index l.paid))
