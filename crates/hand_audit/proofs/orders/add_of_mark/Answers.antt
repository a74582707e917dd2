use Rattle.std.proofs.Common.{◌≡◌, ◌∷◌, ◌++◌, ◌==◌, Bool, true, ◌∙◌, ℕ, List, sym, ap, subst, rules, arith}
use Rattle.std.specs.Prelude.{filter, if◌then◌else◌, slice_index_or}
use Rattle.card_sets.specs.PlayerSetLaws.{AreBelow-seats_in}
use Rattle.card_sets.specs.PlayerSets.{AreBelow, players_in, seats_in}
use Rattle.hand_audit.proofs.lemmas.splits.MarkOrder.{room_left}
use Rattle.hand_audit.proofs.orders.add_of_mark.Goals as goal

pub loop-seat-init : goal.loop-seat-init
loop-seat-init c =
    let rest : c.into_iter-seat-iterator.result.rest ≡ c.seats.result = search rules in
    let all : players_in c.into_iter-seat-iterator.result.rest ≡ seats_in c.args.winners = ap players_in rest ∙ c.seats.ensures.seats in
    let below : AreBelow 11 (players_in c.into_iter-seat-iterator.result.rest) = subst (λ (ps : List ℕ). AreBelow 11 ps) (sym all) (AreBelow-seats_in c.args.winners) in
    record { all = ap (λ ps. c.args.order.now ++ filter (λ p. slice_index_or c.args.marks.now p 0 == c.args.mark) ps) all; below = below }

pub push-requires : goal.push-requires
push-requires c =
    let f : ℕ → Bool = λ p. slice_index_or c.args.marks.now p 0 == c.args.mark in
    let step : players_in c.loop-seat.seat-iterator.rest ≡ c.in-Some.seat ∷ players_in c.next.new.self.rest = c.in-Some.ensures.steps in
    let passes : f c.in-Some.seat ≡ true = (let is = c.if-marks-seat.false in grind (arith, is)) in
    let here : c.loop-seat.order ++ c.in-Some.seat ∷ filter f (players_in c.next.new.self.rest) ≡ c.args.order.now ++ filter f (seats_in c.args.winners)
    = ap (λ b. c.loop-seat.order ++ (if b then c.in-Some.seat ∷ filter f (players_in c.next.new.self.rest) else filter f (players_in c.next.new.self.rest))) (sym passes)
    ∙ ap (λ ps. c.loop-seat.order ++ filter f ps) (sym step) ∙ c.loop-seat.invariant.all in
    room_left _ _ _ _ _ here c.requires.room
