use Rattle.std.proofs.Common.{◌≡◌, ◌∙◌, sym, ap, subst, rules, List, ℕ}
use Rattle.std.specs.Prelude.{None, is_some, slice_index_or}
use Rattle.std.specs.List.{list_all}
use Rattle.card_sets.specs.PlayerSetLaws.{AreBelow-seats_in}
use Rattle.card_sets.specs.PlayerSets.{AreBelow, players_in, seats_in}
use Rattle.hand_audit.proofs.all_in.are_all_known.Goals as goal

pub loop-seat-init : goal.loop-seat-init
loop-seat-init c =
    let rest : c.into_iter-seat-iterator.result.rest ≡ c.seats.result = search rules in
    let all : players_in c.into_iter-seat-iterator.result.rest ≡ seats_in c.args.seats = ap players_in rest ∙ c.seats.ensures.seats in
    record { left = ap (list_all (λ p. is_some (slice_index_or c.args.cards.now p None))) all; below = subst (λ (ps : List ℕ). AreBelow 11 ps) (sym all) (AreBelow-seats_in c.args.seats) }
