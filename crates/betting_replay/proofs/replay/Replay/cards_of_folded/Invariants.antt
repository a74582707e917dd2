use Rattle.std.specs.Prelude.{◌≡◌}
use Rattle.betting_replay.specs.Table.{own_at}
use Rattle.betting_replay.specs.AllIn.{had_folded, cards_of_seats}
use Rattle.betting_replay.proofs.replay.Replay.cards_of_folded.Given as goal

abbrev pub invariant-loop-seat : goal.invariant-loop-seat
invariant-loop-seat l = l.cards ≡ cards_of_seats (had_folded l.self.players l.point) (own_at l.self) l.seat
