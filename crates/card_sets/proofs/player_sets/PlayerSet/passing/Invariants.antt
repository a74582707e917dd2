use Rattle.std.proofs.Common.{◌≡◌, ◌<◌, ℕ, Bool}
use Rattle.card_sets.specs.PlayerSets.{players_where}
use Rattle.card_sets.proofs.player_sets.PlayerSet.passing.Given as goal

abbrev pub invariant-loop-player : goal.invariant-loop-player
invariant-loop-player g l =
    (passes : ℕ → Bool) → ((p : ℕ) (pass : Bool) → p < l.end → goal.F-post g l.test p pass → pass ≡ passes p) → l.set ≡ players_where passes l.player
