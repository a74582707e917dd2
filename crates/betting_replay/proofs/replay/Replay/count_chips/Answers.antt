use Rattle.std.proofs.Common.{◌≡◌, ◌∙◌, ap, rules, subst, sym, length, arith}
use Rattle.std.specs.Prelude.{◌<◌, slice_index_or}
use Rattle.std.proofs.lemmas.List.{get_or_default}
use Rattle.betting_replay.specs.Table.{no_seat}
use Rattle.betting_replay.specs.declared.seats.SeatState.{SeatState}
use Rattle.betting_replay.specs.Events.{seat_of}
use Rattle.betting_replay.specs.Limits.{InLimits, Affords}
use Rattle.betting_replay.specs.TableAfter.{ReplayState, seat_at, chips_at}
use Rattle.betting_replay.proofs.lemmas.chips.AffordedChips.{affords}
use Rattle.betting_replay.proofs.replay.Replay.count_chips.Goals as goal

pub pay_seat-requires-clause-affords : goal.pay_seat-requires-clause-affords
pay_seat-requires-clause-affords c =
    let t : ReplayState = c.args.self.now in
    let within : InLimits (chips_at t (seat_of c.args.e.now)) = search rules in
    let size : length c.self.inside.seats ≡ 11 = search rules in
    let few : c.seat_of-place.result < length c.self.inside.seats = (let f = c.seat_of-place.ensures.few in omega (arith, size, f)) in
    let at : slice_index_or c.self.inside.seats c.seat_of-place.result c.index-self-place.result ≡ seat_at t (seat_of c.args.e.now) =
    get_or_default c.self.inside.seats c.seat_of-place.result c.index-self-place.result no_seat few
    ∙ ap (λ (u : ReplayState). seat_at u c.seat_of-place.result) c.self.view_is ∙ ap (seat_at t) c.seat_of-place.ensures.value in
    let of_seat : SeatState → Type 0 = λ s. Affords t.header.big t.course.small_posted c.args.e.now s.chips in
    let of_table : ReplayState → Type 0 = λ u. Affords u.header.big u.course.small_posted c.args.e.now (slice_index_or c.self.inside.seats c.seat_of-place.result c.index-self-place.result).chips in
    subst of_table (sym c.self.view_is) (subst of_seat (sym at) (affords t c.args.e.now c.requires.amounts within c.requires.legal))
