use Rattle.std.specs.Prelude.{◌≡◌, ◌==◌, ◌&&◌, not}
use Rattle.betting_replay.specs.Seats.{count_below}
use Rattle.betting_replay.specs.Turns.{is_contender, has_chips}
use Rattle.betting_replay.proofs.replay.Replay.has_rival.Given as goal

-- none so far
abbrev pub invariant-loop-rival : goal.invariant-loop-rival
invariant-loop-rival l = count_below (λ q. not (q == l.seat) && is_contender l.self q && has_chips l.self q) l.rival ≡ 0
