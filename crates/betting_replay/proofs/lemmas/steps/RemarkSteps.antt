-- A remark fails no test, and leaves the table as it is.
use Rattle.std.proofs.Common.{◌≡◌, ℕ, List, [], ◌∷◌, refl, sym, ap, ◌∙◌, Bool, true, false, arith, ◌==◌}
use Rattle.std.specs.Prelude.{Option, Some, None, if◌then◌else◌}
use Rattle.hand_events.specs.declared.events.Header.{Header}
use Rattle.hand_events.specs.declared.events.Event.{Event}
use Rattle.hand_events.specs.declared.events.Event.TheVariants.{Remark}
use Rattle.betting_replay.specs.declared.points.Point.{Point}
use Rattle.betting_replay.specs.declared.seats.Chips.{Chips}
use Rattle.betting_replay.specs.declared.seats.SeatState.{SeatState}
use Rattle.betting_replay.specs.AllIn.{is_point, point_now}
use Rattle.betting_replay.specs.Counting.{chips_after, seat_paid}
use Rattle.betting_replay.specs.Faults.{fault_at, not_in_hand, out_of_turn, nothing_owed, amount_amiss, above_stack, all_in_word, street_early, street_order, uncalled_amiss, card_twice, post_late, seat_twice, too_many_cards}
use Rattle.betting_replay.specs.Seats.{by_seat, or_else}
use Rattle.betting_replay.specs.Sums.{button, small_posted, twice_from}
use Rattle.betting_replay.specs.TableAfter.{ReplayState, StandsFor, table_with, point, seat_state, course_of}
use Rattle.betting_replay.proofs.lemmas.seats.SeatLists.{same_by_seat}
use Rattle.betting_replay.proofs.lemmas.steps.NextTable.{seats_case, named_same, thrown_same, board_case, second_case, or_none, alike}
use Rattle.betting_replay.proofs.lemmas.steps.UnmovedCards.{is_bare}

pub remark_stands : (t : ReplayState) → fault_at t Remark ≡ None
unfolding fault_at not_in_hand out_of_turn nothing_owed amount_amiss above_stack all_in_word street_early street_order uncalled_amiss card_twice post_late seat_twice too_many_cards
remark_stands t = refl

-- it moves no chips
same_chips : (big : ℕ) (posted : Bool) (c : Chips) → chips_after big posted Remark c ≡ c
same_chips big posted c = put (omega arith) (omega arith) (omega arith) (omega arith)
  where
    put : {a b d e : ℕ} → a ≡ c.stack → b ≡ c.paid → d ≡ c.dead → e ≡ c.live
        → ◌≡◌ {A = Chips} (record { seated = c.seated; stack = a; paid = b; dead = d; live = e }) (record { seated = c.seated; stack = c.stack; paid = c.paid; dead = c.dead; live = c.live })
    put a b d e = cc

same_seat : (big : ℕ) (posted here : Bool) (s : SeatState) → (if here then seat_paid big posted Remark s else s) ≡ s
same_seat big posted true s = ap (λ (c : Chips). record s { chips = c }) (same_chips big posted s.chips)
same_seat big posted false s = refl

same_seats : (g : Header) (h : List Event) → by_seat (seat_state g (Remark ∷ h)) ≡ by_seat (seat_state g h)
same_seats g h =
    seats_case g h Remark [] false refl refl
    ∙ same_by_seat (λ p. if 0 == p then seat_paid g.big (small_posted h) Remark (seat_state g h p) else seat_state g h p) (seat_state g h) (λ p small. same_seat g.big (small_posted h) (0 == p) (seat_state g h p))

same_table : (g : Header) (players : ℕ) (h : List Event) (x : Option Point) → table_with g players (Remark ∷ h) x ≡ table_with g players h x
same_table g players h x =
    alike g players (button h) x (same_seats g h) (named_same g h Remark (is_bare Remark refl)) (thrown_same h Remark (is_bare Remark refl))
    (sym (board_case Remark h)) (sym (second_case Remark h)) (ap (λ o. record (course_of g h) { split_from = o }) (or_none (twice_from h)))

-- the moment was looked at before
again : (a b : Option Point) → or_else (or_else a b) b ≡ or_else a b
again (Some x) b = refl
again None (Some x) = refl
again None None = refl

none_yet : (g : Header) (players : ℕ) → point_now (table_with g players [] None) ≡ None
unfolding point_now is_point
none_yet g players = refl

known_point : (g : Header) (players : ℕ) (h : List Event) → or_else (point g players h) (point_now (table_with g players h None)) ≡ point g players h
unfolding point
known_point g players [] = none_yet g players
known_point g players (e ∷ h) = again (point g players h) (point_now (table_with g players (e ∷ h) None))

same_point : (g : Header) (players : ℕ) (h : List Event) → point g players (Remark ∷ h) ≡ point g players h
unfolding point
same_point g players h = ap (λ t. or_else (point g players h) (point_now t)) (same_table g players h None) ∙ known_point g players h

pub remark_kept : (t : ReplayState) (g : Header) (players : ℕ) (h : List Event) → StandsFor t g players h → StandsFor t g players (Remark ∷ h)
remark_kept t g players h s = record { is = s.is ∙ sym (same_table g players h (point g players (Remark ∷ h)) ∙ ap (table_with g players h) (same_point g players h)) }
