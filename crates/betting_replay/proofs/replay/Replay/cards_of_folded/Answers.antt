use Rattle.std.proofs.Common.{◌≡◌, ℕ, ◌+◌, ◌∙◌, ap, sym, refl, rules, Bool, true, false, length, arith, add-one, List}
use Rattle.std.specs.Prelude.{◌<◌, slice_index_or}
use Rattle.std.proofs.lemmas.List.{get_or_default}
use Rattle.card_sets.specs.Cards.{union}
use Rattle.betting_replay.specs.AllIn.{had_folded, cards_of_seats}
use Rattle.betting_replay.specs.Table.{ReplayState, own_at, no_seat}
use Rattle.betting_replay.specs.declared.seats.SeatState.{SeatState}
use Rattle.betting_replay.proofs.replay.Replay.cards_of_folded.Goals as goal

-- the cards of one seat more
without : (test : ℕ → Bool) (own : ℕ → List ℕ) (p : ℕ) → test p ≡ false → cards_of_seats test own (p + 1) ≡ cards_of_seats test own p
without test own p fails = rw (add-one, fails) refl

with_one : (test : ℕ → Bool) (own : ℕ → List ℕ) (p : ℕ) → test p ≡ true → cards_of_seats test own (p + 1) ≡ union (cards_of_seats test own p) (own p)
with_one test own p passes = rw (add-one, passes) refl

pub loop-seat-preserved-then-not-had_folded : goal.loop-seat-preserved-then-not-had_folded
loop-seat-preserved-then-not-had_folded c =
    let t : ReplayState = c.args.self.now in
    c.loop-seat.invariant ∙ sym (without (had_folded t.players c.args.point) (own_at t) c.loop-seat.seat (sym c.had_folded.ensures ∙ c.if-not-had_folded.true))

pub loop-seat-preserved : goal.loop-seat-preserved
loop-seat-preserved c =
    let t : ReplayState = c.args.self.now in
    let p : ℕ = c.loop-seat.seat in
    let size : length c.self.inside.seats ≡ 11 = search rules in
    let few : p < length c.self.inside.seats = (let l = c.loop-seat-test.true in omega (arith, size, l)) in
    let own : (slice_index_or c.self.inside.seats p c.index-self-seat.result).own ≡ own_at t p =
    ap (λ (s : SeatState). s.own) (get_or_default c.self.inside.seats p c.index-self-seat.result no_seat few) ∙ ap (λ (u : ReplayState). own_at u p) c.self.view_is in
    c.union-cards.ensures
    ∙ ap (λ (cards : List ℕ). union cards (slice_index_or c.self.inside.seats p c.index-self-seat.result).own) c.loop-seat.invariant
    ∙ ap (union (cards_of_seats (had_folded t.players c.args.point) (own_at t) p)) own
    ∙ sym (with_one (had_folded t.players c.args.point) (own_at t) p (sym c.had_folded.ensures ∙ c.if-not-had_folded.false))
