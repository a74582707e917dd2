use Rattle.std.specs.Prelude.{◌≡◌, ◌&&◌, if◌then◌else◌}
use Rattle.betting_replay.specs.Seats.{count_below}
use Rattle.betting_replay.specs.Turns.{is_contender, has_chips}
use Rattle.betting_replay.proofs.replay.Replay.few_funded.Given as goal

-- how many of the seats so far have chips left
abbrev pub invariant-loop-seat : goal.invariant-loop-seat
invariant-loop-seat l = count_below (λ p. is_contender l.self p && has_chips l.self p) l.seat ≡ (if l.one then 1 else 0)
