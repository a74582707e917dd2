use Rattle.std.specs.Prelude.{◌≡◌, if◌then◌else◌}
use Rattle.betting_replay.specs.Seats.{count_below}
use Rattle.betting_replay.specs.Turns.{is_contender}
use Rattle.betting_replay.proofs.replay.Replay.two_contend.Given as goal

-- how many of the seats so far have not folded
abbrev pub invariant-loop-seat : goal.invariant-loop-seat
invariant-loop-seat l = count_below (is_contender l.self) l.seat ≡ (if l.one then 1 else 0)
