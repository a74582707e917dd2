use Rattle.std.specs.Prelude.{◌≡◌, ◌-◌}
use Rattle.betting_replay.specs.Seats.{first_from}
use Rattle.betting_replay.specs.Turns.{owes}
use Rattle.betting_replay.proofs.replay.Replay.any_funded.Given as goal

-- none so far: the first of all is the first of those that are left
abbrev pub invariant-loop-seat : goal.invariant-loop-seat
invariant-loop-seat l = first_from (owes l.self) l.from (l.end - l.from) ≡ first_from (owes l.self) l.seat (l.end - l.seat)
