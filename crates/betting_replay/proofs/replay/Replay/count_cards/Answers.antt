use Rattle.std.proofs.Common.{◌≡◌, ℕ, ◌∙◌, ap, sym, refl, rules, List, length, arith}
use Rattle.std.specs.Prelude.{◌<◌, slice_index_or, slice_set}
use Rattle.std.proofs.lemmas.List.{get_or_default}
use Rattle.card_sets.specs.Cards.{union, minus}
use Rattle.hand_events.specs.declared.events.Event.{Event}
use Rattle.betting_replay.specs.declared.seats.SeatState.{SeatState}
use Rattle.betting_replay.specs.Counting.{begins_last, dealt_after, seat_dealt}
use Rattle.betting_replay.specs.Events.{seat_of, cards_named}
use Rattle.betting_replay.specs.Places.{thrown_by, with_given}
use Rattle.betting_replay.specs.Table.{ReplayState, no_seat}
use Rattle.betting_replay.proofs.lemmas.steps.NextTable.{alike}
use Rattle.betting_replay.proofs.replay.Replay.count_cards.Goals as goal

pub returns : goal.returns
unfolding dealt_after
returns c =
    let e : Event = c.args.e.now in
    let s : List SeatState = c.self.inside.seats in
    let size : length s ≡ 11 = search rules in
    let few : c.seat_of-place.result < length s = (let f = c.seat_of-place.ensures.few in omega (arith, size, f)) in
    let late : c.begins_last-late.result ≡ begins_last c.args.self.now e = c.begins_last-late.ensures in
    let at : slice_index_or s c.seat_of-place.result c.index-self-place.result ≡ slice_index_or s c.seat_of-place.result no_seat =
    get_or_default s c.seat_of-place.result c.index-self-place.result no_seat few in
    let dealt : c.deal_seat.new.seat ≡ seat_dealt c.self.inside.header.game c.self.inside.course.street (begins_last c.args.self.now e) e (slice_index_or s c.seat_of-place.result no_seat) =
    c.deal_seat.ensures
    ∙ ap (λ l. seat_dealt c.self.inside.header.game c.self.inside.course.street l e (slice_index_or s c.seat_of-place.result c.index-self-place.result)) late
    ∙ ap (λ x. seat_dealt c.self.inside.header.game c.self.inside.course.street (begins_last c.args.self.now e) e x) at in
    let named : c.with_given-self-inside.result ≡ with_given c.self.inside.header.game e (cards_named e) c.self.inside.named =
    c.with_given-self-inside.ensures ∙ ap (λ given. with_given c.self.inside.header.game e given c.self.inside.named) c.cards_named-cards.ensures in
    let thrown : c.with_cards-self-inside.result ≡ union (minus c.self.inside.thrown (cards_named e)) (thrown_by e) =
    c.with_cards-self-inside.ensures
    ∙ ap (λ cards. union cards c.cards_thrown.result.now) (c.without_cards.ensures ∙ ap (minus c.self.inside.thrown) c.cards_named-cards.ensures)
    ∙ ap (union (minus c.self.inside.thrown (cards_named e))) c.cards_thrown.ensures in
    let by_place : ℕ → Event → ReplayState → List SeatState = λ p e t. slice_set s p (seat_dealt c.self.inside.header.game c.self.inside.course.street (begins_last t e) e (slice_index_or s p no_seat)) in
    let seats : slice_set s c.seat_of-place.result c.deal_seat.new.seat ≡ by_place (seat_of e) e c.args.self.now =
    ap (slice_set s c.seat_of-place.result) dealt ∙ ap (λ p. by_place p e c.args.self.now) c.seat_of-place.ensures.value in
    alike c.self.inside.header c.self.inside.players c.self.inside.button c.self.inside.point
    (seats ∙ ap (by_place (seat_of e) e) (sym c.self.view_is)) named thrown c.board_after-self-inside.ensures c.second_after-self-inside.ensures refl
    ∙ ap (λ (u : ReplayState). dealt_after u e) c.self.view_is
