use Rattle.std.specs.Prelude.{◌≡◌}
use Rattle.card_sets.specs.PlayerSets.{players_where}
use Rattle.betting_replay.specs.Turns.{is_contender}
use Rattle.betting_replay.proofs.replay.Replay.contender_set.Given as goal

-- those of the seats so far
abbrev pub invariant-loop-seat : goal.invariant-loop-seat
invariant-loop-seat l = l.set ≡ players_where (is_contender l.self) l.seat
