-- After accepted events: cards that were thrown away, and those of players who had folded, are nobody's who is in the hand.
use Rattle.std.proofs.Common.{◌≡◌, ℕ, zero, suc, ◌<◌, ◌≤◌, List, [], ◌∷◌, refl, sym, ap, ◌∙◌, Bool, true, false, not, ◌||◌, ◌&&◌, ◌==◌, ◌⊎◌, inl, inr, arith}
use Rattle.std.specs.Prelude.{Option, Some, None, if◌then◌else◌, nat_lt}
use Rattle.std.proofs.lemmas.Bool.Decides.{nat_tests}
use mathlib.Core.Bool.{true≢false}
use Rattle.card_sets.specs.Cards.{has_card, with_card, union, minus, IsCardSet}
use Rattle.card_sets.specs.Bits.{IsCardSet-cards_where}
use Rattle.card_sets.specs.Disjoint.{apart}
use Rattle.card_sets.specs.declared.games.Game.{Game}
use Rattle.card_sets.specs.declared.games.Family.{Family}
use Rattle.card_sets.specs.declared.games.Family.TheVariants as family
use Rattle.hand_events.specs.declared.events.Header.{Header}
use Rattle.hand_events.specs.declared.events.BoardNumber.{BoardNumber}
use Rattle.hand_events.specs.declared.events.BoardNumber.TheVariants as board
use Rattle.hand_events.specs.declared.events.Event.{Event}
use Rattle.hand_events.specs.declared.events.Event.TheVariants.{Street, Discard, Pat}
use Rattle.card_sets.specs.declared.streets.Street.{Street as StreetName}
use Rattle.card_sets.specs.declared.streets.Street.TheVariants.{First, Flop, Turn, Fourth, Fifth, Sixth, River, Draw, FirstDraw, SecondDraw, ThirdDraw, ShowDown, Summary}
use Rattle.betting_replay.specs.declared.points.Point.{Point}
use Rattle.betting_replay.specs.Accepted.{IsAccepted}
use Rattle.betting_replay.specs.AllIn.{had_folded, cards_of_seats, dead_by}
use Rattle.betting_replay.specs.Dealing.{gathered, given_by, draws_of}
use Rattle.card_sets.specs.Games.{family_of, is_draw as family_is_draw, has_draw, own_size, may_come_again, deals_again}
use Rattle.betting_replay.specs.Events.{seat_of, cards_named, SeatFits}
use Rattle.betting_replay.specs.Faults.{street_order, may_part, next_only, next_first, next_second, next_on, marker_stands, draw_stands}
use Rattle.betting_replay.specs.Hands.{dealt, shown, shown_by, shown_after, whole, is_discard, if_many}
use Rattle.betting_replay.specs.Known.{holding_of, final_drawn, draws_openly, kept, known_drawn, known_in, known_by}
use Rattle.betting_replay.specs.Places.{place_of, place, is_at, owned, named, thrown, thrown_by, lost_by, barred, with_given, is_board, is_free, first_twice}
use Rattle.card_sets.specs.PlayerSets.{has_player}
use Rattle.betting_replay.specs.Seats.{or_else}
use Rattle.card_sets.specs.Streets.{is_street, is_draw_street, next_street}
use Rattle.betting_replay.specs.Streets.{begun_by_drawing, same_street, is_drawing, is_number, is_end}
use Rattle.betting_replay.specs.Sums.{street, is_last_of, twice_from}
use Rattle.betting_replay.specs.TableAfter.{ReplayState, table_of, point, dead_cards}
use Rattle.betting_replay.proofs.lemmas.chips.AffordedChips.{not_not}
use Rattle.betting_replay.proofs.lemmas.streets.GameFamilies.{never_next, none_begun}
use Rattle.betting_replay.proofs.lemmas.steps.PassedTests.{passed, not_failed}
use Rattle.betting_replay.proofs.lemmas.steps.NextTable.{seat_below, cards_free}
use Rattle.card_sets.proofs.CallerLemmas.{in_where, in_union, in_minus, no_cards, or_either, not_true, where_in}
use Rattle.std.proofs.lemmas.Bool.{or_right, and_parts}
use Rattle.betting_replay.proofs.lemmas.places.CardsBelong.{stays_left, own_step, own_more, own_here, given_is_named, one_place, thrown_named, shown_named, no_card}
use Rattle.betting_replay.proofs.lemmas.known.KnownCards.{if_many_is, shown_holds, known_holds}
use Rattle.betting_replay.proofs.lemmas.known.HeldByText.{only_discards}
use Rattle.betting_replay.proofs.lemmas.places.NextPlaces.{lost_named}

-- no card of a bracket with no fault stood before it
all_new : (free : ℕ → Bool) (cards before : List ℕ) (k : ℕ) → first_twice free before cards ≡ None → k < 52 → has_card cards k ≡ true → has_card before k ≡ true → ⊥
all_new free [] before k none l has old = no_card k has
all_new free (card ∷ cards) before k none l has old =
    one (has_card before card) (free card) refl refl none (or_either (card == k) (has_card cards k) has) (λ rest more. all_new free cards (with_card before card) k rest l more (where_in (λ j. (j == card) || has_card before j) k l (or_right (k == card) (has_card before k) old)))
  where
    one : (b f : Bool) → has_card before card ≡ b → free card ≡ f → (if b || not f then Some card else first_twice free (with_card before card) cards) ≡ None → ((card == k) ≡ true) ⊎ (has_card cards k ≡ true)
        → (first_twice free (with_card before card) cards ≡ None → has_card cards k ≡ true → ⊥) → ⊥
    one true f eb ef none w go = cc
    one false false eb ef none w go = cc
    one false true eb ef none (inl here) go = (let same : card ≡ k = grind arith in true≢false (sym old ∙ ap (has_card before) (sym same) ∙ eb))
    one false true eb ef none (inr rest) go = go none rest

-- a card that an event names wasn't thrown away before
pub named_new : (g : Header) (players : ℕ) (e : Event) (h : List Event) (k : ℕ) → may_come_again g.game ≡ false → IsAccepted g players (e ∷ h) → k < 52 → has_card (cards_named e) k ≡ true → has_card (thrown h) k ≡ true → ⊥
named_new g players e h k stays ok l has old =
    all_new (is_free (named g.game h) (owned g.game h (seat_of e)) (is_board e)) (cards_named e) (barred g.game (thrown h)) k (cards_free g players h (point g players h) e (seat_below e ok.0.seats) ok.1) l has
    (let all : barred g.game (thrown h) ≡ thrown h = rw stays refl in ap (λ cards. has_card cards k) all ∙ old)

-- what an event throws away belongs to its seat
thrown_seat : (e : Event) (k : ℕ) → SeatFits e → has_card (thrown_by e) k ≡ true → (1 ≤ seat_of e) × (seat_of e ≤ 10)
thrown_seat (Discard seat count cards) k fits h = fits
thrown_seat _ k fits h = absurd (no_card k h)

thrown_own : (g : Header) (players : ℕ) (e : Event) (h : List Event) (k : ℕ) → may_come_again g.game ≡ false → IsAccepted g players (e ∷ h) → k < 52 → has_card (thrown_by e) k ≡ true → has_card (owned g.game (e ∷ h) (seat_of e)) k ≡ true
thrown_own g players e h k stays ok l has = (let here : (seat_of e == seat_of e) ≡ true = grind arith in own_here g players e h (seat_of e) k ok here l (stays_left g e (seat_of e) k stays) (thrown_named e k has))

-- so no card of a place that is no seat is
abbrev IsNoSeat : ℕ → Type 0
IsNoSeat q = (s : ℕ) → 1 ≤ s → s ≤ 10 → s ≡ q → ⊥

thrown_elsewhere : (g : Header) (players : ℕ) (h : List Event) (q k : ℕ) → IsNoSeat q → may_come_again g.game ≡ false → IsAccepted g players h → has_card (thrown h) k ≡ true → has_card (owned g.game h q) k ≡ true → ⊥
thrown_elsewhere g players [] q k none stays ok has own = no_card k has
thrown_elsewhere g players (e ∷ h) q k none stays ok has own =
    (let w = in_union (minus (thrown h) (cards_named e)) (thrown_by e) k has in elim w.1 [
      | inl still ↦ (let old = (in_minus (thrown h) (cards_named e) k still).1 in before (thrown_elsewhere g players h q k none stays ok.2 old) w.0 old (place_of e == q) (ap (λ xs. has_card xs k) (sym (own_step g players e h q ok)) ∙ own))
      | inr now ↦ (let same : seat_of e ≡ q = one_place g.game (e ∷ h) (seat_of e) q k (thrown_own g players e h k stays ok w.0 now) own in let seat = thrown_seat e k ok.0.seats now in none (seat_of e) seat.0 seat.1 same)
    ])
  where
    before : (has_card (owned g.game h q) k ≡ true → ⊥) → k < 52 → has_card (thrown h) k ≡ true → (b : Bool) → has_card (if b then with_given g.game e (cards_named e) (owned g.game h q) else owned g.game h q) k ≡ true → ⊥
    before ih l old true own = elim (in_union (owned g.game h q) (cards_named e) k (in_minus (union (owned g.game h q) (cards_named e)) (lost_by g.game e) k own).1).1 [
      | inl there ↦ ih there
      | inr named ↦ named_new g players e h k stays ok l named old
    ]
    before ih l old false own = ih own

-- no whole hand that a seat showed has a card that anybody threw away: a discard of its own ends what it showed
pub shown_not_thrown : (g : Header) (players : ℕ) (h : List Event) (p : ℕ) (cards : List ℕ) (k : ℕ) → may_come_again g.game ≡ false → IsAccepted g players h → shown g h p ≡ Some cards → has_card cards k ≡ true → has_card (thrown h) k ≡ true → ⊥
shown_not_thrown g players [] p cards k stays ok is has gone = no_card k gone
shown_not_thrown g players (e ∷ h) p cards k stays ok is has gone =
    (let w = in_union (minus (thrown h) (cards_named e)) (thrown_by e) k gone in at w.0 (thrown_before w.1) (λ before old. shown_not_thrown g players h p cards k stays ok.2 before has old) (seat_of e == p) refl is)
  where
    thrown_before : (has_card (minus (thrown h) (cards_named e)) k ≡ true) ⊎ (has_card (thrown_by e) k ≡ true) → (has_card (thrown h) k ≡ true) ⊎ (has_card (thrown_by e) k ≡ true)
    thrown_before (inl old) = inl (in_minus (thrown h) (cards_named e) k old).1
    thrown_before (inr now) = inr now

    new_hand : k < 52 → (xs : List ℕ) → whole g.game (shown_by e) ≡ Some xs → xs ≡ cards → has_card (thrown h) k ≡ true → ⊥
    new_hand l xs w same old =
        let set : union [] (shown_by e) ≡ xs = (if_many_is (own_size g.game) (union [] (shown_by e)) xs w).0 in
        let there : has_card (union [] (shown_by e)) k ≡ true = ap (λ ys. has_card ys k) (set ∙ same) ∙ has in
        elim (in_union [] (shown_by e) k there).1 [
          | inl none ↦ no_card k none
          | inr now ↦ named_new g players e h k stays ok l (given_is_named e k (shown_named e k now)) old
        ]

    last : k < 52 → (shown g h p ≡ Some cards → has_card (thrown h) k ≡ true → ⊥) → has_card (thrown h) k ≡ true → (o : Option (List ℕ)) → whole g.game (shown_by e) ≡ o → or_else o (shown g h p) ≡ Some cards → ⊥
    last l ih old None w is = ih is old
    last l ih old (Some xs) w is = new_hand l xs w (let same : xs ≡ cards = cc in same) old

    kept_by : k < 52 → ((has_card (thrown h) k ≡ true) ⊎ (has_card (thrown_by e) k ≡ true)) → (shown g h p ≡ Some cards → has_card (thrown h) k ≡ true → ⊥) → (b : Bool) → is_discard e ≡ b
        → (if b then None else or_else (whole g.game (shown_by e)) (shown g h p)) ≡ Some cards → ⊥
    kept_by l w ih true d is = cc
    kept_by l (inl old) ih false d is = last l ih old (whole g.game (shown_by e)) refl is
    kept_by l (inr now) ih false d is = only_discards e k d now

    at : k < 52 → ((has_card (thrown h) k ≡ true) ⊎ (has_card (thrown_by e) k ≡ true)) → (shown g h p ≡ Some cards → has_card (thrown h) k ≡ true → ⊥) → (b : Bool) → (seat_of e == p) ≡ b
        → (if b then shown_after g.game e (shown g h p) else shown g h p) ≡ Some cards → ⊥
    at l w ih true here is = kept_by l w ih (is_discard e) refl is
    at l (inl old) ih false here is = ih is old
    at l (inr now) ih false here is =
        let mine : has_card (owned g.game (e ∷ h) p) k ≡ true = own_more g players e h p k ok (stays_left g e p k stays) ((shown_holds g players h p cards ok.2 is).among.each k has) in
        let same : seat_of e ≡ p = one_place g.game (e ∷ h) (seat_of e) p k (thrown_own g players e h k stays ok l now) mine in
        let yes : (seat_of e == p) ≡ true = grind arith in
        true≢false (sym yes ∙ here)

-- the test of streets that an event passes
pub order_of : (g : Header) (players : ℕ) (e : Event) (h : List Event) → IsAccepted g players (e ∷ h) → street_order (table_of g players h) e ≡ None
order_of g players e h ok = (passed (table_of g players h) e ok.1).order

pub marker_of : (g : Header) (players : ℕ) (s : StreetName) (number : BoardNumber) (cards : List ℕ) (h : List Event) → IsAccepted g players (Street s number cards ∷ h) → marker_stands (table_of g players h) number s ≡ true
unfolding street_order
marker_of g players s number cards h ok = not_not _ (not_failed _ _ (order_of g players (Street s number cards) h ok))

-- no marker comes of a street that is neither the next of the game nor the one from which on there are two boards
pub never_on : (s : StreetName) (t : ReplayState) (number : BoardNumber) → same_street s None ≡ false → same_street s (next_street t.header.game t.course.street) ≡ false → same_street s t.course.split_from ≡ false → same_street s (next_on t number) ≡ false
never_on s t board.Only none next from = by t.course.split_from
  where
    by : (o : Option StreetName) → same_street s (next_only o (next_street t.header.game t.course.street)) ≡ false
    by None = next
    by (Some other) = none
never_on s t board.First none next from = by (may_part t) t.course.split_from t.course.marker
  where
    by : (b : Bool) (o : Option StreetName) (n : BoardNumber) → same_street s (next_first b o n (next_street t.header.game t.course.street)) ≡ false
    by true None n = next
    by false None n = none
    by b (Some other) board.Only = none
    by b (Some other) board.First = next
    by b (Some other) board.Second = none
never_on s t board.Second none next from = by t.course.split_from t.course.marker (is_last_of t.header.game t.course.street) from
  where
    by : (o : Option StreetName) (n : BoardNumber) (b : Bool) → same_street s o ≡ false → same_street s (next_second o n b (next_street t.header.game t.course.street)) ≡ false
    by None n b other = none
    by (Some other) board.Only b f = none
    by (Some other) board.First true f = f
    by (Some other) board.First false f = none
    by (Some other) board.Second b f = next

-- two streets that are the same
pub street_is : (s t : StreetName) → is_street s t ≡ true → s ≡ t
street_is First First e = refl
street_is Flop Flop e = refl
street_is Turn Turn e = refl
street_is Fourth Fourth e = refl
street_is Fifth Fifth e = refl
street_is Sixth Sixth e = refl
street_is River River e = refl
street_is Draw Draw e = refl
street_is FirstDraw FirstDraw e = refl
street_is SecondDraw SecondDraw e = refl
street_is ThirdDraw ThirdDraw e = refl
street_is ShowDown ShowDown e = refl
street_is Summary Summary e = refl
street_is _ _ e = cc

-- the marker of a draw that stands is the next on its board
drawing_stands : (g : Header) (players : ℕ) (s : StreetName) (number : BoardNumber) (cards : List ℕ) (h : List Event) → is_draw_street s ≡ true → IsAccepted g players (Street s number cards ∷ h) → same_street s (next_on (table_of g players h) number) ≡ true
drawing_stands g players Draw number cards h draws ok = (and_parts _ _ (marker_of g players Draw number cards h ok)).0
drawing_stands g players FirstDraw number cards h draws ok = (and_parts _ _ (marker_of g players FirstDraw number cards h ok)).0
drawing_stands g players SecondDraw number cards h draws ok = (and_parts _ _ (marker_of g players SecondDraw number cards h ok)).0
drawing_stands g players ThirdDraw number cards h draws ok = (and_parts _ _ (marker_of g players ThirdDraw number cards h ok)).0
drawing_stands g players _ number cards h draws ok = cc

-- a game with no draw never comes to one, and nothing is thrown away in it
record HasNoDraw (g : Header) (h : List Event) : Type 0 where
  now : is_drawing (street g h) ≡ false
  twice : is_drawing (twice_from h) ≡ false

either_drawing : (a b : Option StreetName) → is_drawing a ≡ false → is_drawing b ≡ false → is_drawing (or_else a b) ≡ false
either_drawing None b x y = y
either_drawing (Some t) b x y = x

-- a street on which there is a draw is the street of another where that is it
same_drawing : (s : StreetName) (o : Option StreetName) → is_draw_street s ≡ true → is_drawing o ≡ false → same_street s o ≡ false
same_drawing s None draws off = refl
same_drawing s (Some t) draws off = by (is_street s t) refl
  where
    by : (b : Bool) → is_street s t ≡ b → b ≡ false
    by false other = refl
    by true same = absurd (true≢false (sym draws ∙ ap is_draw_street (street_is s t same) ∙ off))

not_drawing : (g : Header) (players : ℕ) (h : List Event) → IsAccepted g players h → has_draw g.game ≡ false → HasNoDraw g h
not_drawing g players [] ok no_draw = record { now = refl; twice = refl }
not_drawing g players (Street s number cards ∷ h) ok no_draw = by (not_drawing g players h ok.2 no_draw) (is_draw_street s) refl
  where
    part : (b c : Bool) → is_draw_street s ≡ false → is_drawing (if b && not c then Some s else None) ≡ false
    part true true off = refl
    part true false off = off
    part false c off = refl

    by : HasNoDraw g h → (b : Bool) → is_draw_street s ≡ b → HasNoDraw g (Street s number cards ∷ h)
    by before false off = record { now = off; twice = either_drawing (twice_from h) _ before.twice (part (is_number board.First number) (is_end s) off) }
    by before true draws =
        let next : same_street s (next_street g.game (street g h)) ≡ false = same_drawing s (next_street g.game (street g h)) draws (never_next g.game (street g h) no_draw) in
        let stands = drawing_stands g players s number cards h draws ok in
        absurd (true≢false (sym stands ∙ never_on s (table_of g players h) number refl next (same_drawing s (twice_from h) draws before.twice)))
not_drawing g players (Discard seat count cards ∷ h) ok no_draw = (let before = not_drawing g players h ok.2 no_draw in record { now = rw (none_begun g.game (street g h) no_draw) before.now; twice = either_drawing (twice_from h) None before.twice refl })
not_drawing g players (Pat seat ∷ h) ok no_draw = (let before = not_drawing g players h ok.2 no_draw in record { now = rw (none_begun g.game (street g h) no_draw) before.now; twice = either_drawing (twice_from h) None before.twice refl })
not_drawing g players (e ∷ h) ok no_draw = (let before = not_drawing g players h ok.2 no_draw in record { now = before.now; twice = either_drawing (twice_from h) None before.twice refl })

not_now : (g : Header) (players : ℕ) (e : Event) (h : List Event) (k : ℕ) → IsAccepted g players (e ∷ h) → has_draw g.game ≡ false → has_card (thrown_by e) k ≡ true → ⊥
unfolding street_order
not_now g players (Discard seat count cards) h k ok no_draw now =
    let stands : draw_stands (table_of g players h) ≡ true = not_not _ (not_failed _ _ (order_of g players (Discard seat count cards) h ok)) in
    let off : is_drawing (street g h) ≡ false = (not_drawing g players h ok.2 no_draw).now in
    let none : begun_by_drawing g.game (street g h) ≡ None = none_begun g.game (street g h) no_draw in
    let never : draw_stands (table_of g players h) ≡ false = rw (off, none) refl in
    true≢false (sym stands ∙ never)
not_now g players _ h k ok no_draw now = no_card k now

pub nothing_thrown : (g : Header) (players : ℕ) (h : List Event) (k : ℕ) → IsAccepted g players h → has_draw g.game ≡ false → has_card (thrown h) k ≡ true → ⊥
nothing_thrown g players [] k ok no_draw has = no_card k has
nothing_thrown g players (e ∷ h) k ok no_draw has = elim (in_union (minus (thrown h) (cards_named e)) (thrown_by e) k has).1 [
  | inl old ↦ nothing_thrown g players h k ok.2 no_draw (in_minus (thrown h) (cards_named e) k old).1
  | inr now ↦ not_now g players e h k ok no_draw now
]

-- a card of some seats that pass a test is of one of them
record OfSome (test : ℕ → Bool) (own : ℕ → List ℕ) (n k : ℕ) : Type 0 where
  seat : ℕ
  small : seat < n
  passes : test seat ≡ true
  has : has_card (own seat) k ≡ true

of_more : (test : ℕ → Bool) (own : ℕ → List ℕ) (n k : ℕ) → OfSome test own n k → OfSome test own (suc n) k
of_more test own n k x = record { seat = x.seat; small = (let l : x.seat < n = x.small in omega arith); passes = x.passes; has = x.has }

of_some : (test : ℕ → Bool) (own : ℕ → List ℕ) (n k : ℕ) → has_card (cards_of_seats test own n) k ≡ true → OfSome test own n k
of_some test own zero k has = absurd (no_card k has)
of_some test own (suc n) k has = one (test n) refl has (of_some test own n k)
  where
    one : (b : Bool) → test n ≡ b → has_card (if b then union (cards_of_seats test own n) (own n) else cards_of_seats test own n) k ≡ true → (has_card (cards_of_seats test own n) k ≡ true → OfSome test own n k) → OfSome test own (suc n) k
    one true is has go = elim (in_union (cards_of_seats test own n) (own n) k has).1 [
      | inl below ↦ of_more test own n k (go below)
      | inr here ↦ record { seat = n; small = omega arith; passes = is; has = here }
    ]
    one false is has go = of_more test own n k (go has)

-- no known card was thrown away
drawn_not_thrown : (g : Header) (players : ℕ) (h : List Event) (p : ℕ) (cards : List ℕ) (k : ℕ) → may_come_again g.game ≡ false → IsAccepted g players h → final_drawn (holding_of g h p) ≡ Some cards → has_card cards k ≡ true → has_card (thrown h) k ≡ true → ⊥
drawn_not_thrown g players h p cards k stays ok is has gone = one (shown g h p) refl (draws_of h p).hidden is
  where
    one : (o : Option (List ℕ)) → shown g h p ≡ o → (b : Bool) → or_else o (if b then None else if_many 5 (minus (dealt h p) (thrown h))) ≡ Some cards → ⊥
    one (Some xs) s b is = shown_not_thrown g players h p cards k stays ok (s ∙ is) has gone
    one None s true is = cc
    one None s false is =
        let same : minus (dealt h p) (thrown h) ≡ cards = (if_many_is 5 (minus (dealt h p) (thrown h)) cards is).0 in
        (in_minus (dealt h p) (thrown h) k (ap (λ xs. has_card xs k) same ∙ has)).2 gone

kept_not_thrown : (g : Header) (players : ℕ) (h : List Event) (p : ℕ) (cards : List ℕ) (k : ℕ) → may_come_again g.game ≡ false → IsAccepted g players h → kept (holding_of g h p) ≡ Some cards → has_card cards k ≡ true → has_card (thrown h) k ≡ true → ⊥
kept_not_thrown g players h p cards k stays ok is has gone = one (draws_openly (holding_of g h p)) ((draws_of h p).pat && apart (owned g.game h p) (thrown h)) (draws_of h p).five is
  where
    one : (a b c : Bool) → (if a then Some (minus (gathered given_by h p) (thrown h)) else (if b then final_drawn (holding_of g h p) else (if c then Some [] else None))) ≡ Some cards → ⊥
    one true b c is =
        let same : minus (gathered given_by h p) (thrown h) ≡ cards = cc in
        (in_minus (gathered given_by h p) (thrown h) k (ap (λ xs. has_card xs k) same ∙ has)).2 gone
    one false true c is = drawn_not_thrown g players h p cards k stays ok is has gone
    one false false true is = (let same : [] ≡ cards = cc in no_card k (ap (λ xs. has_card xs k) same ∙ has))
    one false false false is = cc

known_drawn_not_thrown : (g : Header) (players : ℕ) (h : List Event) (p : ℕ) (s : StreetName) (cards : List ℕ) (k : ℕ) → may_come_again g.game ≡ false → IsAccepted g players h → known_drawn (holding_of g h p) s ≡ Some cards → has_card cards k ≡ true → has_card (thrown h) k ≡ true → ⊥
known_drawn_not_thrown g players h p First cards k stays ok is has gone = kept_not_thrown g players h p cards k stays ok is has gone
known_drawn_not_thrown g players h p _ cards k stays ok is has gone = drawn_not_thrown g players h p cards k stays ok is has gone

-- a card that may come again, and was thrown away and not named since, belongs to nobody
pub thrown_nobody : (g : Header) (players : ℕ) (h : List Event) (k : ℕ) → IsAccepted g players h → may_come_again g.game ≡ true → has_card (thrown h) k ≡ true → place g.game h k ≡ None
thrown_nobody g players [] k ok again has = absurd (no_card k has)
thrown_nobody g players (e ∷ h) k ok again has =
    (let w = in_union (minus (thrown h) (cards_named e)) (thrown_by e) k has in elim w.1 [
      | inl old ↦
          (let m = in_minus (thrown h) (cards_named e) k old in
          let unlost : has_card (lost_by g.game e) k ≡ false = not_there (has_card (lost_by g.game e) k) (λ lost. m.2 (lost_named g.game e k lost)) in
          let unnamed : has_card (cards_named e) k ≡ false = not_there (has_card (cards_named e) k) m.2 in
          rw (unlost, unnamed, thrown_nobody g players h k ok.2 again m.1) refl)
      | inr now ↦ (let lost : has_card (lost_by g.game e) k ≡ true = rw again now in rw lost refl)
    ])
  where
    not_there : (b : Bool) → (b ≡ true → ⊥) → b ≡ false
    not_there true out = absurd (out refl)
    not_there false out = refl

thrown_not_owned : (g : Header) (players : ℕ) (h : List Event) (p k : ℕ) → IsAccepted g players h → may_come_again g.game ≡ true → has_card (thrown h) k ≡ true → has_card (owned g.game h p) k ≡ true → ⊥
thrown_not_owned g players h p k ok again gone own =
    let there : is_at p (place g.game h k) ≡ true = (in_where (λ card. is_at p (place g.game h card)) k own).1 in
    true≢false (sym there ∙ ap (is_at p) (thrown_nobody g players h k ok again gone))

pub known_not_thrown : (g : Header) (players : ℕ) (h : List Event) (p : ℕ) (s : StreetName) (cards : List ℕ) (k : ℕ) (game : Game) → g.game ≡ game → IsAccepted g players h → known_by game (holding_of g h p) s ≡ Some cards
    → has_card cards k ≡ true → has_card (thrown h) k ≡ true → ⊥
known_not_thrown g players h p s cards k game same ok is has gone = by (family_of game) refl is
  where
    never : (f : Family) → family_of game ≡ f → family_is_draw f ≡ false → ⊥
    never f e off = nothing_thrown g players h k ok (ap has_draw same ∙ ap family_is_draw e ∙ off) gone

    by : (f : Family) → family_of game ≡ f → known_in f (own_size game) (holding_of g h p) s ≡ Some cards → ⊥
    by family.Board e is = never family.Board e refl
    by family.Stud e is = never family.Stud e refl
    by family.Draw e is = known_drawn_not_thrown g players h p s cards k (ap may_come_again same ∙ ap deals_again e) ok is has gone
    by family.TripleDraw e known = thrown_not_owned g players h p k ok (ap may_come_again same ∙ ap deals_again e) gone ((known_holds g players h p cards s game same ok is).among.each k has)

-- a dead card was thrown away, or is of a player who had folded
in_dead : (game : Game) (players : ℕ) (h : List Event) (o : Option Point) (k : ℕ) → has_card (dead_by players o (owned game h) (thrown h)) k ≡ true
    → (has_card (thrown h) k ≡ true) ⊎ ((found : Point) × (o ≡ Some found) × OfSome (had_folded players found) (owned game h) 11 k)
in_dead game players h None k has = absurd (no_card k has)
in_dead game players h (Some found) k has = elim (in_union (thrown h) (cards_of_seats (had_folded players found) (owned game h) 11) k has).1 [
  | inl gone ↦ inl gone
  | inr folded ↦ inr (found, refl, of_some (had_folded players found) (owned game h) 11 k folded)
]

pub dead_is_set : (game : Game) (players : ℕ) (h : List Event) (o : Option Point) → IsCardSet (dead_by players o (owned game h) (thrown h))
dead_is_set game players h None = no_cards
dead_is_set game players h (Some found) = IsCardSet-cards_where (λ k. has_card (thrown h) k || has_card (cards_of_seats (had_folded players found) (owned game h) 11) k)

-- no card that was thrown away is of a place that is no seat
thrown_nowhere : (g : Header) (players : ℕ) (h : List Event) (q k : ℕ) → IsNoSeat q → IsAccepted g players h → has_card (thrown h) k ≡ true → has_card (owned g.game h q) k ≡ true → ⊥
thrown_nowhere g players h q k none ok has own = by (may_come_again g.game) refl
  where
    by : (b : Bool) → may_come_again g.game ≡ b → ⊥
    by true again = thrown_not_owned g players h q k ok again has own
    by false stays = thrown_elsewhere g players h q k none stays ok has own

dead_elsewhere : (g : Header) (players : ℕ) (h : List Event) (q k : ℕ) → IsNoSeat q → IsAccepted g players h → has_card (dead_cards g players h) k ≡ true → has_card (owned g.game h q) k ≡ true → ⊥
dead_elsewhere g players h q k none ok has own = elim (in_dead g.game players h (point g players h) k has) [
  | inl gone ↦ thrown_nowhere g players h q k none ok gone own
  | inr f ↦
      (let over : nat_lt 0 f.2.seat ≡ true = (and_parts _ _ (and_parts _ _ f.2.passes).0).0 in
      let same : f.2.seat ≡ q = one_place g.game h f.2.seat q k f.2.has own in
      let low : f.2.seat < 11 = f.2.small in
      none f.2.seat (from_one f.2.seat over) (omega (arith, low)) same)
]
  where
    from_one : (n : ℕ) → nat_lt 0 n ≡ true → 1 ≤ n
    from_one n over = grind (arith, nat_tests)

-- no dead card is on a board
pub dead_not_board : (g : Header) (players : ℕ) (h : List Event) (k : ℕ) → IsAccepted g players h → has_card (dead_cards g players h) k ≡ true → has_card (owned g.game h 0) k ≡ true → ⊥
dead_not_board g players h k ok has own = dead_elsewhere g players h 0 k (λ s low high is. absurd (omega (arith, low, is))) ok has own

pub dead_not_second : (g : Header) (players : ℕ) (h : List Event) (k : ℕ) → IsAccepted g players h → has_card (dead_cards g players h) k ≡ true → has_card (owned g.game h 11) k ≡ true → ⊥
dead_not_second g players h k ok has own = dead_elsewhere g players h 11 k (λ s low high is. absurd (omega (arith, high, is))) ok has own

pub dead_not_known : (g : Header) (players : ℕ) (h : List Event) (found : Point) (p : ℕ) (s : StreetName) (cards : List ℕ) (k : ℕ) → IsAccepted g players h → point g players h ≡ Some found → has_player found.contenders p ≡ true
    → known_by g.game (holding_of g h p) s ≡ Some cards → ((j : ℕ) → has_card cards j ≡ true → has_card (owned g.game h p) j ≡ true) → has_card (dead_cards g players h) k ≡ true → has_card cards k ≡ true → ⊥
dead_not_known g players h found p s cards k ok at is_in known own has mine = elim (in_dead g.game players h (point g players h) k has) [
  | inl gone ↦ known_not_thrown g players h p s cards k g.game refl ok known mine gone
  | inr f ↦
      (let out : not (has_player f.0.contenders f.2.seat) ≡ true = (and_parts (nat_lt 0 f.2.seat && has_player players f.2.seat) (not (has_player f.0.contenders f.2.seat)) f.2.passes).1 in
      let same : f.2.seat ≡ p = one_place g.game h f.2.seat p k f.2.has (own k mine) in
      let one : Some f.0 ≡ Some found = sym f.1 ∙ at in
      let pt : f.0 ≡ found = cc in
      let here : has_player f.0.contenders f.2.seat ≡ true = ap (λ (q : ℕ). has_player f.0.contenders q) same ∙ ap (λ (x : Point). has_player x.contenders p) pt ∙ is_in in
      not_true _ out here)
]
