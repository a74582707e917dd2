use Rattle.std.proofs.Common.{◌≡◌, ◌∙◌, sym, ap, subst, rules, not, List, ℕ}
use Rattle.std.specs.List.{list_all}
use Rattle.card_sets.specs.PlayerSetLaws.{AreBelow-seats_in}
use Rattle.card_sets.specs.PlayerSets.{AreBelow, players_in, seats_in}
use Rattle.showdown_tally.specs.Settling.{number_of}
use Rattle.hand_audit.specs.Winning.{is_beaten}
use Rattle.hand_audit.proofs.winners.is_unbeaten.Goals as goal

pub loop-seat-init : goal.loop-seat-init
loop-seat-init c =
    let rest : c.into_iter-seat-iterator.result.rest ≡ c.seats.result = search rules in
    let all : players_in c.into_iter-seat-iterator.result.rest ≡ seats_in c.args.seats = ap players_in rest ∙ c.seats.ensures.seats in
    record { left = ap (list_all (λ q. not (is_beaten c.args.mine (number_of c.args.values.now q)))) all; below = subst (λ (ps : List ℕ). AreBelow 11 ps) (sym all) (AreBelow-seats_in c.args.seats) }
