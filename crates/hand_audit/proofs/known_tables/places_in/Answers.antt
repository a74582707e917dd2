use Rattle.std.proofs.Common.{◌≡◌, ◌∷◌, [], ◌∙◌, ℕ, suc, List, sym, ap, subst, rules, arith, length}
use Rattle.std.specs.Prelude.{if◌then◌else◌}
use Rattle.card_sets.specs.PlayerSetLaws.{AreBelow-seats_in}
use Rattle.card_sets.specs.PlayerSets.{AreBelow, players_in, seats_in, with_player}
use Rattle.hand_audit.proofs.lemmas.seats.SeatSets.{few_seats}
use Rattle.hand_audit.proofs.lemmas.seats.TenPlaces.{further}
use Rattle.hand_audit.proofs.lemmas.tables.EligibleHands.{place_more, placed}
use Rattle.hand_audit.proofs.known_tables.places_in.Goals as goal

pub loop-seat-init : goal.loop-seat-init
loop-seat-init c =
    let rest : c.into_iter-seat-iterator.result.rest ≡ c.seats.result = search rules in
    let all : players_in c.into_iter-seat-iterator.result.rest ≡ seats_in c.args.seats = ap players_in rest ∙ c.seats.ensures.seats in
    let below : AreBelow 11 (players_in c.into_iter-seat-iterator.result.rest) = subst (λ (ps : List ℕ). AreBelow 11 ps) (sym all) (AreBelow-seats_in c.args.seats) in
    record { left = sym all; few = (let long = ap length all in omega (arith, long)); below = below; places = c.empty-places.ensures }

pub with_if-places-requires : goal.with_if-places-requires
with_if-places-requires c =
    let few = c.loop-seat.invariant.few in
    let step : players_in c.loop-seat.seat-iterator.rest ≡ c.in-Some.seat ∷ players_in c.next.new.self.rest = c.in-Some.ensures.steps in
    let shorter : length (players_in c.loop-seat.seat-iterator.rest) ≡ suc (length (players_in c.next.new.self.rest)) = ap length step in
    omega (arith, few, shorter, few_seats c.args.seats)

pub overflow_add-count : goal.overflow_add-count
overflow_add-count c =
    let few = c.loop-seat.invariant.few in
    let step : players_in c.loop-seat.seat-iterator.rest ≡ c.in-Some.seat ∷ players_in c.next.new.self.rest = c.in-Some.ensures.steps in
    let shorter : length (players_in c.loop-seat.seat-iterator.rest) ≡ suc (length (players_in c.next.new.self.rest)) = ap length step in
    omega (arith, few, shorter, few_seats c.args.seats)

pub loop-seat-preserved : goal.loop-seat-preserved
loop-seat-preserved c =
    let inv = c.loop-seat.invariant in
    let step : players_in c.loop-seat.seat-iterator.rest ≡ c.in-Some.seat ∷ players_in c.next.new.self.rest = c.in-Some.ensures.steps in
    let below : AreBelow 11 (c.in-Some.seat ∷ players_in c.next.new.self.rest) = subst (λ (ps : List ℕ). AreBelow 11 ps) step inv.below in
    let shorter : length (players_in c.loop-seat.seat-iterator.rest) ≡ suc (length (players_in c.next.new.self.rest)) = ap length step in
    let few = inv.few in
    let at = further (seats_in c.args.seats) c.loop-seat.count c.in-Some.seat (players_in c.next.new.self.rest) (inv.left ∙ step) in
    record {
      left = at.left;
      few = omega (arith, shorter, few);
      below = below.1;
      places = c.with_if-places.ensures ∙ ap (λ b. if b then with_player c.loop-seat.places c.loop-seat.count else c.loop-seat.places) c.has.ensures
          ∙ place_more (seats_in c.args.seats) c.args.set c.loop-seat.count c.in-Some.seat c.loop-seat.places (players_in c.next.new.self.rest) (few_seats c.args.seats) (inv.left ∙ step) inv.places;
    }

pub returns : goal.returns
returns c =
    let inv = c.loop-seat.invariant in
    let over : players_in c.loop-seat.seat-iterator.rest ≡ [] = c.in-None.ensures.steps.0 in
    let none : length (players_in c.loop-seat.seat-iterator.rest) ≡ 0 = ap length over in
    let few = inv.few in
    placed (seats_in c.args.seats) c.args.set c.loop-seat.count c.loop-seat.places (inv.left ∙ over) (omega (arith, few, none)) inv.places
