-- A set of named cards, and so a board, grows by each card of a marker.
use Rattle.std.proofs.Common.{◌≡◌, ℕ, ◌+◌, ◌<◌, ◌≤◌, List, [], ◌∷◌, refl, sym, ap, ◌∙◌, Bool, true, false, not, ◌||◌, ◌==◌, ◌⊎◌, inl, inr, arith, length, add-zero}
use Rattle.std.specs.Prelude.{Option, Some, None, if◌then◌else◌, is_some}
use mathlib.Core.Bool.{true≢false}
use Rattle.card_sets.specs.Cards.{has_card, with_card, union, IsCardSet}
use Rattle.card_sets.specs.Bits.{IsCardSet-cards_where}
use Rattle.hand_events.specs.declared.events.Header.{Header}
use Rattle.hand_events.specs.declared.events.BoardNumber.{BoardNumber}
use Rattle.hand_events.specs.declared.events.Event.{Event}
use Rattle.hand_events.specs.declared.events.Event.TheVariants.{Deal, Street, Act, Show, SeatCards, Discard}
use Rattle.card_sets.specs.declared.streets.Street.{Street as StreetName}
use Rattle.betting_replay.specs.Accepted.{IsAccepted}
use Rattle.betting_replay.specs.Boards.{board_on, named_on, second_on, named_second}
use Rattle.betting_replay.specs.CardLaws.{Among}
use Rattle.betting_replay.specs.Events.{seat_of, cards_named, SeatFits}
use Rattle.betting_replay.specs.Places.{place_of, place, is_at, owned, named, thrown, barred, with_given, is_board, is_free, first_twice}
use Rattle.betting_replay.specs.TableAfter.{point}
use Rattle.card_sets.proofs.CallerLemmas.{union-nil, union-front, in_where, where_in, or_either, length-with_card}
use Rattle.std.proofs.lemmas.Bool.{or_left, or_right}
use Rattle.betting_replay.proofs.lemmas.steps.NextTable.{cards_free, seat_below}
use Rattle.betting_replay.proofs.lemmas.places.CardsBelong.{own_step, board_among}
use Rattle.betting_replay.proofs.lemmas.places.CardSets.{second_set}
use Rattle.betting_replay.proofs.lemmas.places.NextPlaces.{place_seat, nothing_given}
use Rattle.card_sets.specs.declared.games.Game.{Game}

-- a set of named cards grows by each card of a marker
grown : (all own cards before s : List ℕ) → first_twice (is_free all own true) before cards ≡ None → ((k : ℕ) → has_card cards k ≡ true → k < 52) → IsCardSet s → ((k : ℕ) → k < 52 → has_card s k ≡ true → (has_card all k ≡ true) ⊎ (has_card before k ≡ true))
    → length (union s cards) ≡ length s + length cards
grown all own [] before s none deck set old = ap length (union-nil s set) ∙ sym (add-zero (length s))
grown all own (c ∷ cards) before s none deck set old =
    one (has_card before c) (is_free all own true c) refl refl none (λ rest.
    grown all own cards (with_card before c) (with_card s c) rest (λ k h. deck k (or_right (c == k) (has_card cards k) h)) (IsCardSet-cards_where (λ k. (k == c) || has_card s k)) (λ k l h. later k l (or_either (k == c) (has_card s k) (in_where (λ j. (j == c) || has_card s j) k h).1)))
  where
    of_deck : c < 52
    of_deck = deck c (or_left (c == c) (has_card cards c) (let here : (c == c) ≡ true = grind arith in here))

    later : (k : ℕ) → k < 52 → ((k == c) ≡ true) ⊎ (has_card s k ≡ true) → (has_card all k ≡ true) ⊎ (has_card (with_card before c) k ≡ true)
    later k l (inl here) = inr (where_in (λ j. (j == c) || has_card before j) k l (or_left (k == c) (has_card before k) here))
    later k l (inr mine) = elim (old k l mine) [
      | inl a ↦ inl a
      | inr b ↦ inr (where_in (λ j. (j == c) || has_card before j) k l (or_right (k == c) (has_card before k) b))
    ]

    out : (b : Bool) → has_card s c ≡ b → has_card before c ≡ false → is_free all own true c ≡ true → has_card s c ≡ false
    out true is eb ef = elim (old c of_deck is) [
      | inl a ↦ (let closed : is_free all own true c ≡ false = rw a refl in absurd (true≢false (sym ef ∙ closed)))
      | inr b ↦ absurd (true≢false (sym b ∙ eb))
    ]
    out false is eb ef = is

    one : (b f : Bool) → has_card before c ≡ b → is_free all own true c ≡ f → (if b || not f then Some c else first_twice (is_free all own true) (with_card before c) cards) ≡ None
        → (first_twice (is_free all own true) (with_card before c) cards ≡ None → length (union (with_card s c) cards) ≡ length (with_card s c) + length cards) → length (union s (c ∷ cards)) ≡ length s + length (c ∷ cards)
    one true f eb ef none go = cc
    one false false eb ef none go = cc
    one false true eb ef none go =
        let front : length (union s (c ∷ cards)) ≡ length (union (with_card s c) cards) = ap length (union-front s cards c) in
        let more : length (with_card s c) ≡ length s + 1 = length-with_card s c set (out (has_card s c) refl eb ef) of_deck in
        omega (arith, front, more, go none)

-- what belongs to a place was named
owned_named : (game : Game) (h : List Event) (p k : ℕ) → has_card (owned game h p) k ≡ true → has_card (named game h) k ≡ true
owned_named game h p k has = (let w = in_where (λ card. is_at p (place game h card)) k has in where_in (λ card. is_some (place game h card)) k w.0 (one (place game h k) w.1))
  where
    one : (o : Option ℕ) → is_at p o ≡ true → is_some o ≡ true
    one None is = absurd (true≢false (sym is))
    one (Some q) is = refl

-- so does a set of named cards with those of a marker
pub named_grows : (g : Header) (players : ℕ) (s : StreetName) (number : BoardNumber) (cards : List ℕ) (h : List Event) (part : List ℕ) → IsAccepted g players (Street s number cards ∷ h) → ((k : ℕ) → has_card cards k ≡ true → k < 52) → Among part (named g.game h)
    → length (union part cards) ≡ length part + length cards
named_grows g players s number cards h part ok deck a =
    grown (named g.game h) (owned g.game h 0) cards (barred g.game (thrown h)) part (cards_free g players h (point g players h) (Street s number cards) (seat_below (Street s number cards) ok.0.seats) ok.1) deck a.set (λ k l has. inl (a.each k has))

-- what is among the cards of a place was named
pub among_named : (game : Game) (h : List Event) (p : ℕ) (part : List ℕ) → Among part (owned game h p) → Among part (named game h)
among_named game h p part a = record { set = a.set; each = λ k has. owned_named game h p k (a.each k has) }

pub marker_grows : (g : Header) (players : ℕ) (s : StreetName) (number : BoardNumber) (cards : List ℕ) (h : List Event) (part : List ℕ) → IsAccepted g players (Street s number cards ∷ h) → ((k : ℕ) → has_card cards k ≡ true → k < 52) → Among part (owned g.game h 0)
    → length (union part cards) ≡ length part + length cards
marker_grows g players s number cards h part ok deck a = named_grows g players s number cards h part ok deck (among_named g.game h 0 part a)

-- an event that is no marker leaves the board
zero_seat : (seat : ℕ) (cards : List ℕ) → (1 ≤ seat) × (seat ≤ 10) → (seat == 0) ≡ true → cards ≡ []
zero_seat seat cards fits here = (let none : seat ≡ 0 = grind arith in let some : 1 ≤ seat = fits.0 in absurd (omega arith))

no_names : (e : Event) → SeatFits e → is_board e ≡ false → (seat_of e == 0) ≡ true → cards_named e ≡ []
no_names (Street s number cards) fits plain here = cc
no_names (Deal seat cards drawn) fits plain here = zero_seat seat cards fits here
no_names (Act seat act all_in shown) fits plain here = zero_seat seat shown fits here
no_names (Show seat cards) fits plain here = zero_seat seat cards fits here
no_names (SeatCards seat cards) fits plain here = zero_seat seat cards fits here
no_names (Discard seat count cards) fits plain here = zero_seat seat cards fits here
no_names _ fits plain here = refl

pub own_same : (g : Header) (players : ℕ) (e : Event) (h : List Event) → IsAccepted g players (e ∷ h) → is_board e ≡ false → owned g.game (e ∷ h) 0 ≡ owned g.game h 0
own_same g players e h ok plain = own_step g players e h 0 ok ∙ one (place_of e == 0) refl
  where
    one : (b : Bool) → (place_of e == 0) ≡ b → (if b then with_given g.game e (cards_named e) (owned g.game h 0) else owned g.game h 0) ≡ owned g.game h 0
    one true is = (let none : cards_named e ≡ [] = no_names e ok.0.seats plain (ap (λ q. q == 0) (sym (place_seat e plain)) ∙ is) in nothing_given g.game e (owned g.game h 0) (IsCardSet-cards_where (λ card. is_at 0 (place g.game h card))) none)
    one false is = refl

pub none_on : (s : StreetName) (e : Event) → is_board e ≡ false → named_on s e ≡ []
none_on s (Street marker number cards) plain = cc
none_on s _ plain = refl

pub same_on : (g : Header) (players : ℕ) (s : StreetName) (e : Event) (h : List Event) → IsAccepted g players h → named_on s e ≡ [] → board_on s (e ∷ h) ≡ board_on s h
same_on g players s e h ok none = rw none (union-nil (board_on s h) (board_among g players s h ok).set)

-- nor does it give the second board any
pub none_second : (s : StreetName) (e : Event) → is_board e ≡ false → named_second s e ≡ []
none_second s (Street marker number cards) plain = cc
none_second s _ plain = refl

pub same_second : (s : StreetName) (e : Event) (h : List Event) → named_second s e ≡ [] → second_on s (e ∷ h) ≡ second_on s h
same_second s e h none = rw none (union-nil (second_on s h) (second_set s h))
