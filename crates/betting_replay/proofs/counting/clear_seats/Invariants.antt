use Rattle.std.specs.Prelude.{◌≡◌}
use Rattle.betting_replay.specs.Counting.{cleared_seat}
use Rattle.betting_replay.proofs.lemmas.seats.ChangedFronts.{map_first}
use Rattle.betting_replay.proofs.counting.clear_seats.Given as goal

abbrev pub invariant-loop-seat : goal.invariant-loop-seat
invariant-loop-seat l = l.seats ≡ map_first cleared_seat l.seat-index l.fn.seats
