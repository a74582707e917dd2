use Rattle.std.proofs.Common.{◌≡◌, ◌∷◌, [], ◌∙◌, ℕ, suc, List, sym, ap, subst, rules, arith, length, set, replicate}
use Rattle.card_sets.specs.PlayerSetLaws.{AreBelow-seats_in}
use Rattle.card_sets.specs.PlayerSets.{AreBelow, players_in, seats_in}
use Rattle.hand_audit.specs.AllIns.{cards_or_none}
use Rattle.hand_audit.proofs.lemmas.seats.SeatSets.{few_seats}
use Rattle.hand_audit.proofs.lemmas.seats.TenPlaces.{further, fill_seat, ten_none}
use Rattle.hand_audit.proofs.known_tables.hands_of.Goals as goal

pub loop-seat-init : goal.loop-seat-init
loop-seat-init c =
    let rest : c.into_iter-seat-iterator.result.rest ≡ c.seats.result = search rules in
    let all : players_in c.into_iter-seat-iterator.result.rest ≡ seats_in c.args.seats = ap players_in rest ∙ c.seats.ensures.seats in
    let below : AreBelow 11 (players_in c.into_iter-seat-iterator.result.rest) = subst (λ (ps : List ℕ). AreBelow 11 ps) (sym all) (AreBelow-seats_in c.args.seats) in
    record { left = sym all; few = (let long = ap length all in omega (arith, long, few_seats c.args.seats)); below = below; all = ap (λ x. replicate 10 x) c.empty-all.ensures ∙ ten_none [] }

pub loop-seat-preserved : goal.loop-seat-preserved
loop-seat-preserved c =
    let inv = c.loop-seat.invariant in
    let step : players_in c.loop-seat.seat-iterator.rest ≡ c.in-Some.seat ∷ players_in c.next.new.self.rest = c.in-Some.ensures.steps in
    let below : AreBelow 11 (c.in-Some.seat ∷ players_in c.next.new.self.rest) = subst (λ (ps : List ℕ). AreBelow 11 ps) step inv.below in
    let shorter : length (players_in c.loop-seat.seat-iterator.rest) ≡ suc (length (players_in c.next.new.self.rest)) = ap length step in
    let few = inv.few in
    let at = further (seats_in c.args.seats) c.loop-seat.count c.in-Some.seat (players_in c.next.new.self.rest) (inv.left ∙ step) in
    record {
      left = at.left;
      few = omega (arith, shorter, few);
      below = below.1;
      all = ap (λ x. set c.loop-seat.all c.loop-seat.count x) c.cards_at.ensures ∙ fill_seat [] (cards_or_none c.args.cards.now) (seats_in c.args.seats) c.loop-seat.count c.in-Some.seat (players_in c.next.new.self.rest) c.loop-seat.all (few_seats c.args.seats) (inv.left ∙ step) inv.all;
    }
