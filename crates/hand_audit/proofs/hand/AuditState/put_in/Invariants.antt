use Rattle.std.specs.Prelude.{◌≡◌, ◌+◌, ◌-◌, ◌*◌, ◌^◌, ◌≤◌}
use Rattle.pot_layers.specs.Pots.{put_in_all}
use Rattle.hand_audit.specs.Showings.{paid_from, paid_in}
use Rattle.hand_audit.proofs.hand.AuditState.put_in.Given as goal

abbrev pub invariant-loop-seat : goal.invariant-loop-seat
invariant-loop-seat l = record {
  all : l.units + put_in_all (paid_from l.self.replay l.seat (11 - l.seat)) ≡ put_in_all (paid_in l.self.replay);
  room : l.units ≤ (l.seat - 1) * 10 ^ 15;
}
