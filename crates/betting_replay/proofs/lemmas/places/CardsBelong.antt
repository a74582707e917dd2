-- After accepted events the cards that the text gives a seat belong to it, and those that it gives a board belong to the board.
use Rattle.std.proofs.Common.{◌≡◌, ℕ, ◌<◌, ◌≤◌, List, [], ◌∷◌, refl, sym, ap, ◌∙◌, Bool, true, false, ◌||◌, ◌==◌, ◌⊎◌, inl, inr, arith}
use Rattle.std.specs.Prelude.{Option, Some, None, if◌then◌else◌}
use mathlib.Core.Bool.{true≢false}
use Rattle.card_sets.specs.Cards.{has_card, union}
use Rattle.card_sets.specs.Bits.{IsCardSet-cards_where}
use Rattle.card_sets.specs.Disjoint.{apart}
use Rattle.hand_events.specs.declared.events.Header.{Header}
use Rattle.hand_events.specs.declared.events.BoardNumber.{BoardNumber}
use Rattle.hand_events.specs.declared.events.BoardNumber.TheVariants as board
use Rattle.hand_events.specs.declared.events.Event.{Event}
use Rattle.hand_events.specs.declared.events.Event.TheVariants.{Deal, Street, Act, Show, SeatCards, Discard}
use Rattle.card_sets.specs.declared.streets.Street.{Street as StreetName}
use Rattle.card_sets.specs.declared.streets.Street.TheVariants.{First, Flop, Turn, River}
use Rattle.betting_replay.specs.Accepted.{IsAccepted}
use Rattle.betting_replay.specs.Boards.{is_second, cards_if, named_on, named_second, board_on, second_on, board_up_to, before, board_before, shared_by, shared, second_own}
use Rattle.betting_replay.specs.CardLaws.{Among}
use Rattle.betting_replay.specs.Dealing.{counts_on, dealt_on, dealt_then, gathered, given_by}
use Rattle.betting_replay.specs.Events.{seat_of, cards_named, SeatFits}
use Rattle.betting_replay.specs.Hands.{dealt, dealt_by, shown, shown_by}
use Rattle.betting_replay.specs.Places.{place_of, cards_given, place, is_at, owned, thrown, thrown_by, lost_by, barred, with_given}
use Rattle.card_sets.specs.Games.{may_come_again}
use Rattle.card_sets.specs.declared.games.Game.{Game}
use Rattle.betting_replay.proofs.lemmas.places.NextPlaces.{lost_thrown, nothing_lost}
use Rattle.betting_replay.specs.Streets.{same_street}
use Rattle.betting_replay.specs.Sums.{street, twice_from}
use Rattle.betting_replay.specs.TableAfter.{point}
use Rattle.card_sets.proofs.CallerLemmas.{in_where, in_union, in_rest, union_left, union_right, no_cards, apart-Apart}
use Rattle.betting_replay.proofs.lemmas.steps.NextTable.{seat_below, cards_free, own_case}
use Rattle.betting_replay.proofs.lemmas.places.CardSets.{dealt_set, then_set, gathered_set, board_set, second_set}

pub no_card : (k : ℕ) → has_card [] k ≡ true → ⊥
no_card k h = true≢false (sym h)

-- an event that may stand gives its cards to its place, and takes none from any but what it loses
pub own_step : (g : Header) (players : ℕ) (e : Event) (h : List Event) (p : ℕ) → IsAccepted g players (e ∷ h) → owned g.game (e ∷ h) p ≡ (if place_of e == p then with_given g.game e (cards_named e) (owned g.game h p) else owned g.game h p)
own_step g players e h p ok =
    own_case g.game e h (barred g.game (thrown h)) (cards_free g players h (point g players h) e (seat_below e ok.0.seats) ok.1) p (place_of e == p) refl

-- a card that the event doesn't lose stays
abbrev pub IsLeft : Header → Event → ℕ → ℕ → Type 0
IsLeft g e p k = (place_of e == p) ≡ true → has_card (lost_by g.game e) k ≡ true → ⊥

pub own_more : (g : Header) (players : ℕ) (e : Event) (h : List Event) (p k : ℕ) → IsAccepted g players (e ∷ h) → IsLeft g e p k → has_card (owned g.game h p) k ≡ true → has_card (owned g.game (e ∷ h) p) k ≡ true
own_more g players e h p k ok left has = rw (own_step g players e h p ok) (at (place_of e == p) refl)
  where
    at : (b : Bool) → (place_of e == p) ≡ b → has_card (if b then with_given g.game e (cards_named e) (owned g.game h p) else owned g.game h p) k ≡ true
    at true is =
        let w = in_where (λ card. is_at p (place g.game h card)) k has in
        in_rest (union (owned g.game h p) (cards_named e)) (lost_by g.game e) k w.0 (union_left (owned g.game h p) (cards_named e) k w.0 has) (left is)
    at false is = has

pub own_there : (g : Header) (players : ℕ) (e : Event) (h : List Event) (p k : ℕ) → IsAccepted g players (e ∷ h) → (place_of e == p) ≡ true → k < 52 → IsLeft g e p k → has_card (cards_named e) k ≡ true → has_card (owned g.game (e ∷ h) p) k ≡ true
own_there g players e h p k ok here l left has =
    rw (own_step g players e h p ok, here) (in_rest (union (owned g.game h p) (cards_named e)) (lost_by g.game e) k l (union_right (owned g.game h p) (cards_named e) k l has) (left here))

-- a seat gets the cards that its event gives it, and so does the first board
pub own_here : (g : Header) (players : ℕ) (e : Event) (h : List Event) (p k : ℕ) → IsAccepted g players (e ∷ h) → (seat_of e == p) ≡ true → k < 52 → IsLeft g e p k → has_card (cards_given e) k ≡ true → has_card (owned g.game (e ∷ h) p) k ≡ true
own_here g players (Street s board.Second cards) h p k ok here l left has = absurd (true≢false (sym has))
own_here g players (Street s board.Only cards) h p k ok here l left has = own_there g players (Street s board.Only cards) h p k ok here l left has
own_here g players (Street s board.First cards) h p k ok here l left has = own_there g players (Street s board.First cards) h p k ok here l left has
own_here g players e h p k ok here l left has = own_there g players e h p k ok here l left has

-- where no card comes again every card stays, and so does what an event names that throws nothing away
pub stays_left : (g : Header) (e : Event) (p k : ℕ) → may_come_again g.game ≡ false → IsLeft g e p k
stays_left g e p k stays here lost = no_card k (ap (λ cards. has_card cards k) (sym (nothing_lost g.game e stays)) ∙ lost)

pub kept_left : (g : Header) (e : Event) (p k : ℕ) → ((place_of e == p) ≡ true → has_card (thrown_by e) k ≡ true → ⊥) → IsLeft g e p k
kept_left g e p k none here lost = none here (lost_thrown g.game e k lost)

-- it names them
pub given_is_named : (e : Event) (k : ℕ) → has_card (cards_given e) k ≡ true → has_card (cards_named e) k ≡ true
given_is_named (Street s board.Second cards) k h = absurd (true≢false (sym h))
given_is_named (Street s board.Only cards) k h = h
given_is_named (Street s board.First cards) k h = h
given_is_named e k h = h

-- a card has one place
pub one_place : (game : Game) (h : List Event) (p q k : ℕ) → has_card (owned game h p) k ≡ true → has_card (owned game h q) k ≡ true → p ≡ q
one_place game h p q k a b = same (place game h k) (in_where (λ card. is_at p (place game h card)) k a).1 (in_where (λ card. is_at q (place game h card)) k b).1
  where
    same : (o : Option ℕ) → is_at p o ≡ true → is_at q o ≡ true → p ≡ q
    same None x y = absurd (true≢false (sym x))
    same (Some s) x y = (let a : s ≡ p = grind arith in let b : s ≡ q = grind arith in sym a ∙ b)

pub places_apart : (game : Game) (h : List Event) (p q : ℕ) → (p == q) ≡ false → apart (owned game h p) (owned game h q) ≡ true
places_apart game h p q other = apart-Apart (owned game h p) (owned game h q) (λ k x y. let same : p ≡ q = one_place game h p q k x y in let yes : (p == q) ≡ true = grind arith in true≢false (sym yes ∙ other))

-- a card that is gathered from the events of a place came with one before, or with this one
abbrev pub Comes : (List Event → List ℕ) → ℕ → Type 0
Comes all p = (e : Event) (h : List Event) (k : ℕ) → has_card (all (e ∷ h)) k ≡ true → (has_card (all h) k ≡ true) ⊎ (((seat_of e == p) ≡ true) × (k < 52) × (has_card (cards_given e) k ≡ true))

pub gather : (all : List Event → List ℕ) (p : ℕ) → ((k : ℕ) → has_card (all []) k ≡ true → ⊥) → Comes all p
    → (g : Header) → ((e : Event) (k : ℕ) → SeatFits e → IsLeft g e p k) → (players : ℕ) (h : List Event) (k : ℕ) → IsAccepted g players h → has_card (all h) k ≡ true → has_card (owned g.game h p) k ≡ true
gather all p none comes g left players [] k ok has = absurd (none k has)
gather all p none comes g left players (e ∷ h) k ok has = elim (comes e h k has) [
  | inl before ↦ own_more g players e h p k ok (left e k ok.0.seats) (gather all p none comes g left players h k ok.2 before)
  | inr now ↦ own_here g players e h p k ok now.0 now.1 (left e k ok.0.seats) now.2
]

-- where each event about a seat adds some of the cards that it gives it
pub comes_by : (old by : List ℕ) (e : Event) (p k : ℕ) (b : Bool) → (seat_of e == p) ≡ b → (has_card by k ≡ true → has_card (cards_given e) k ≡ true) → has_card (if b then union old by else old) k ≡ true
    → (has_card old k ≡ true) ⊎ (((seat_of e == p) ≡ true) × (k < 52) × (has_card (cards_given e) k ≡ true))
comes_by old by e p k true is part has = (let w = in_union old by k has in elim w.1 [
  | inl before ↦ inl before
  | inr now ↦ inr (is, w.0, part now)
])
comes_by old by e p k false is part has = inl has

-- what is dealt, given up or shown is given to the seat
pub dealt_named : (e : Event) (k : ℕ) → has_card (dealt_by e) k ≡ true → has_card (cards_given e) k ≡ true
dealt_named (Deal seat cards drawn) k h = h
dealt_named _ k h = absurd (no_card k h)

pub shown_named : (e : Event) (k : ℕ) → has_card (shown_by e) k ≡ true → has_card (cards_given e) k ≡ true
shown_named (Act seat act all_in shown) k h = h
shown_named (Show seat cards) k h = h
shown_named (SeatCards seat cards) k h = h
shown_named _ k h = absurd (no_card k h)

pub thrown_named : (e : Event) (k : ℕ) → has_card (thrown_by e) k ≡ true → has_card (cards_given e) k ≡ true
thrown_named (Discard seat count cards) k h = h
thrown_named _ k h = absurd (no_card k h)

given_named : (e : Event) (k : ℕ) → has_card (given_by e) k ≡ true → has_card (cards_given e) k ≡ true
given_named (Deal seat cards true) k h = absurd (no_card k h)
given_named (Deal seat cards false) k h = h
given_named _ k h = absurd (no_card k h)

on_named : (s : StreetName) (now : Option StreetName) (e : Event) (k : ℕ) → has_card (dealt_on s now e) k ≡ true → has_card (cards_given e) k ≡ true
on_named s now e k h = one (counts_on s now) h
  where
    one : (b : Bool) → has_card (if b then dealt_by e else []) k ≡ true → has_card (cards_given e) k ≡ true
    one true h = dealt_named e k h
    one false h = absurd (no_card k h)

-- what was dealt to a seat belongs to it
pub dealt_among : (g : Header) (players : ℕ) (h : List Event) (p : ℕ) → may_come_again g.game ≡ false → IsAccepted g players h → Among (dealt h p) (owned g.game h p)
dealt_among g players h p stays ok = record {
  set = dealt_set h p;
  each = (λ k has. gather (λ h. dealt h p) p no_card (λ e h k has. comes_by (dealt h p) (dealt_by e) e p k (seat_of e == p) refl (dealt_named e k) has) g (λ e k fits. stays_left g e p k stays) players h k ok has);
}

pub then_among : (g : Header) (players : ℕ) (s : StreetName) (h : List Event) (p : ℕ) → may_come_again g.game ≡ false → IsAccepted g players h → Among (dealt_then g s h p) (owned g.game h p)
then_among g players s h p stays ok = record {
  set = then_set g s h p;
  each = (λ k has. gather (λ h. dealt_then g s h p) p no_card (λ e h k has. comes_by (dealt_then g s h p) (dealt_on s (street g h) e) e p k (seat_of e == p) refl (on_named s (street g h) e k) has) g (λ e k fits. stays_left g e p k stays) players h k ok has);
}

pub given_among : (g : Header) (players : ℕ) (h : List Event) (p : ℕ) → may_come_again g.game ≡ false → IsAccepted g players h → Among (gathered given_by h p) (owned g.game h p)
given_among g players h p stays ok = record {
  set = gathered_set given_by h p;
  each = (λ k has. gather (λ h. gathered given_by h p) p no_card (λ e h k has. comes_by (gathered given_by h p) (given_by e) e p k (seat_of e == p) refl (given_named e k) has) g (λ e k fits. stays_left g e p k stays) players h k ok has);
}

-- no event takes a card from a board: who throws one away has a seat
seated_thrown : (e : Event) (k : ℕ) → SeatFits e → has_card (thrown_by e) k ≡ true → (1 ≤ place_of e) × (place_of e ≤ 10)
seated_thrown (Discard seat count cards) k fits h = fits
seated_thrown _ k fits h = absurd (no_card k h)

board_left : (g : Header) (e : Event) (k : ℕ) → SeatFits e → IsLeft g e 0 k
board_left g e k fits = kept_left g e 0 k (λ here gone. let seat = seated_thrown e k fits gone in let none : place_of e ≡ 0 = grind arith in omega (arith, seat.0, none))

second_left : (g : Header) (e : Event) (k : ℕ) → SeatFits e → IsLeft g e 11 k
second_left g e k fits = kept_left g e 11 k (λ here gone. let seat = seated_thrown e k fits gone in let none : place_of e ≡ 11 = grind arith in omega (arith, seat.1, none))

-- and what came to the board on a street belongs to the board
board_comes : (s : StreetName) → Comes (board_on s) 0
board_comes s (Street marker number cards) h k has = (let w = in_union (board_on s h) (named_on s (Street marker number cards)) k has in elim w.1 [
  | inl before ↦ inl before
  | inr now ↦ inr (refl, w.0, on_board number (same_street marker (Some s)) now)
])
  where
    one : (b : Bool) → has_card (cards_if b cards) k ≡ true → has_card cards k ≡ true
    one true h = h
    one false h = absurd (no_card k h)

    on_board : (n : BoardNumber) (b : Bool) → has_card (if is_second n then [] else cards_if b cards) k ≡ true → has_card (cards_given (Street marker n cards)) k ≡ true
    on_board board.Only b h = one b h
    on_board board.First b h = one b h
    on_board board.Second b h = absurd (no_card k h)
board_comes s e h k has = (let w = in_union (board_on s h) (named_on s e) k has in elim w.1 [
  | inl before ↦ inl before
  | inr now ↦ absurd (no_card k now)
])

pub board_among : (g : Header) (players : ℕ) (s : StreetName) (h : List Event) → IsAccepted g players h → Among (board_on s h) (owned g.game h 0)
board_among g players s h ok = record { set = board_set s h; each = (λ k has. gather (board_on s) 0 no_card (board_comes s) g (λ e k fits. board_left g e k fits) players h k ok has) }

-- two parts of a set together
pub union_among : (a b own : List ℕ) → Among a own → Among b own → Among (union a b) own
union_among a b own x y = record {
  set = IsCardSet-cards_where (λ k. has_card a k || has_card b k);
  each = (λ k has. elim (in_union a b k has).1 [ inl l ↦ x.each k l | inr r ↦ y.each k r ]);
}

pub up_to_among : (g : Header) (players : ℕ) (s : StreetName) (h : List Event) → IsAccepted g players h → Among (board_up_to h s) (owned g.game h 0)
up_to_among g players First h ok = record { set = no_cards; each = (λ k has. absurd (no_card k has)) }
up_to_among g players Flop h ok = board_among g players Flop h ok
up_to_among g players Turn h ok = union_among _ _ _ (board_among g players Flop h ok) (board_among g players Turn h ok)
up_to_among g players _ h ok = union_among _ _ _ (union_among _ _ _ (board_among g players Flop h ok) (board_among g players Turn h ok)) (board_among g players River h ok)

pub before_among : (g : Header) (players : ℕ) (s : StreetName) (h : List Event) → IsAccepted g players h → Among (board_before h s) (owned g.game h 0)
before_among g players First h ok = record { set = no_cards; each = (λ k has. absurd (no_card k has)) }
before_among g players Flop h ok = record { set = no_cards; each = (λ k has. absurd (no_card k has)) }
before_among g players Turn h ok = board_among g players Flop h ok
before_among g players River h ok = union_among _ _ _ (board_among g players Flop h ok) (board_among g players Turn h ok)
before_among g players _ h ok = union_among _ _ _ (union_among _ _ _ (board_among g players Flop h ok) (board_among g players Turn h ok)) (board_among g players River h ok)

-- what two boards share belongs to the first
pub shared_among : (g : Header) (players : ℕ) (h : List Event) → IsAccepted g players h → Among (shared h) (owned g.game h 0)
shared_among g players h ok = by (twice_from h)
  where
    by : (o : Option StreetName) → Among (shared_by o (board_on Flop h) (board_on Turn h) (board_on River h)) (owned g.game h 0)
    by None = record { set = no_cards; each = (λ k has. absurd (no_card k has)) }
    by (Some s) = before_among g players s h ok

-- and what came to the second alone to that
second_there : (s : StreetName) (e : Event) (k : ℕ) → has_card (named_second s e) k ≡ true → ((place_of e == 11) ≡ true) × (has_card (cards_named e) k ≡ true)
second_there s (Street marker board.Only cards) k h = absurd (no_card k h)
second_there s (Street marker board.First cards) k h = absurd (no_card k h)
second_there s (Street marker board.Second cards) k h = (refl, one (same_street marker (Some s)) h)
  where
    one : (b : Bool) → has_card (cards_if b cards) k ≡ true → has_card cards k ≡ true
    one true h = h
    one false h = absurd (no_card k h)
second_there s e k h = absurd (no_card k h)

second_owned : (g : Header) (players : ℕ) (s : StreetName) (h : List Event) (k : ℕ) → IsAccepted g players h → has_card (second_on s h) k ≡ true → has_card (owned g.game h 11) k ≡ true
second_owned g players s [] k ok has = absurd (no_card k has)
second_owned g players s (e ∷ h) k ok has = (let w = in_union (second_on s h) (named_second s e) k has in elim w.1 [
  | inl before ↦ own_more g players e h 11 k ok (second_left g e k ok.0.seats) (second_owned g players s h k ok.2 before)
  | inr now ↦ (let there = second_there s e k now in own_there g players e h 11 k ok there.0 w.0 (second_left g e k ok.0.seats) there.1)
])

pub second_among : (g : Header) (players : ℕ) (h : List Event) → IsAccepted g players h → Among (second_own h) (owned g.game h 11)
second_among g players h ok = union_among _ _ _ (union_among _ _ _ (on Flop) (on Turn)) (on River)
  where
    on : (s : StreetName) → Among (second_on s h) (owned g.game h 11)
    on s = record { set = second_set s h; each = λ k has. second_owned g players s h k ok has }
