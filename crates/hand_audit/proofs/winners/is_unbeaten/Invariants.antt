use Rattle.std.specs.Prelude.{◌≡◌, not}
use Rattle.std.specs.List.{list_all}
use Rattle.card_sets.specs.PlayerSets.{AreBelow, players_in}
use Rattle.showdown_tally.specs.Settling.{number_of}
use Rattle.hand_audit.specs.Winning.{is_beaten, is_unbeaten}
use Rattle.hand_audit.proofs.winners.is_unbeaten.Given as goal

abbrev pub invariant-loop-seat : goal.invariant-loop-seat
invariant-loop-seat l = record {
  left : list_all (λ q. not (is_beaten l.mine (number_of l.values q))) (players_in l.seat-iterator.rest) ≡ is_unbeaten l.values l.fn.seats l.mine;
  below : AreBelow 11 (players_in l.seat-iterator.rest);
}
