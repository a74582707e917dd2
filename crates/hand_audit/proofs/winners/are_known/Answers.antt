use Rattle.std.proofs.Common.{◌≡◌, ◌∙◌, sym, ap, subst, rules, List, ℕ}
use Rattle.std.specs.List.{list_all}
use Rattle.card_sets.specs.PlayerSetLaws.{AreBelow-seats_in}
use Rattle.card_sets.specs.PlayerSets.{AreBelow, has_player, players_in, seats_in}
use Rattle.hand_audit.proofs.winners.are_known.Goals as goal

pub loop-seat-init : goal.loop-seat-init
loop-seat-init c =
    let rest : c.into_iter-seat-iterator.result.rest ≡ c.seats.result = search rules in
    let all : players_in c.into_iter-seat-iterator.result.rest ≡ seats_in c.args.seats = ap players_in rest ∙ c.seats.ensures.seats in
    record { left = ap (list_all (has_player c.args.known)) all; below = subst (λ (ps : List ℕ). AreBelow 11 ps) (sym all) (AreBelow-seats_in c.args.seats) }
