use Rattle.std.proofs.Common.{◌≡◌, ◌<◌, ◌^◌, ◌==◌}
use Rattle.std.specs.Prelude.{slice_index, filter}
use Rattle.card_sets.specs.PlayerSets.{set_of_players, hands_below}
use Rattle.runout_walk.proofs.bests.best_of.Given as goal

abbrev pub invariant-loop-hand : goal.invariant-loop-hand
invariant-loop-hand l = record {
  set : l.set ≡ set_of_players (filter (λ h. slice_index l.values h == l.top) (hands_below l.hands l.hand));
  small : l.set < 2 ^ l.hand;
}
