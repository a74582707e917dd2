-- How many cards a board has on each of its streets, after one event more.
use Rattle.std.proofs.Common.{◌≡◌, ℕ, ◌+◌, ◌<◌, List, [], ◌∷◌, refl, ap, ◌∙◌, Bool, true, false, ◌||◌, ◌==◌, arith, length}
use Rattle.std.specs.Prelude.{Some, if◌then◌else◌}
use Rattle.card_sets.specs.Cards.{has_card, union}
use Rattle.card_sets.specs.Bits.{cards_where_same, has-cards_where}
use Rattle.hand_events.specs.declared.events.Header.{Header}
use Rattle.hand_events.specs.declared.events.BoardNumber.{BoardNumber}
use Rattle.hand_events.specs.declared.events.BoardNumber.TheVariants as board
use Rattle.hand_events.specs.declared.events.Event.{Event}
use Rattle.hand_events.specs.declared.events.Event.TheVariants.{Street}
use Rattle.card_sets.specs.declared.streets.Street.{Street as StreetName}
use Rattle.card_sets.specs.declared.streets.Street.TheVariants.{Flop, Turn, River}
use Rattle.betting_replay.specs.Accepted.{IsAccepted}
use Rattle.betting_replay.specs.Boards.{is_second, cards_if, named_on, board_on}
use Rattle.betting_replay.specs.CardLaws.{Among}
use Rattle.betting_replay.specs.Places.{place_of, owned, with_given, is_board}
use Rattle.betting_replay.specs.Streets.{same_street}
use Rattle.card_sets.specs.Bits.{none-cards_where}
use Rattle.betting_replay.proofs.lemmas.places.NextPlaces.{marker_given, nothing_given}
use Rattle.card_sets.specs.declared.games.Game.{Game}
use Rattle.betting_replay.proofs.lemmas.places.CardsBelong.{own_step, board_among, union_among}
use Rattle.betting_replay.proofs.lemmas.known.KnownCards.{all_among}
use Rattle.betting_replay.proofs.lemmas.boards.BoardGrowth.{marker_grows, own_same, none_on, same_on}

-- the cards of a flop, of the streets up to a turn, of all streets, and of the board
pub record Sizes (game : Game) (h : List Event) (a b c : ℕ) : Type 0 where
  pub one : length (board_on Flop h) ≡ a
  pub two : length (union (board_on Flop h) (board_on Turn h)) ≡ b
  pub all : length (union (union (board_on Flop h) (board_on Turn h)) (board_on River h)) ≡ c
  pub own : length (owned game h 0) ≡ c

-- the sets of a board after a marker
pub mid : (a b c : List ℕ) → union (union a c) b ≡ union (union a b) c
mid a b c = cards_where_same _ _ (λ k l. rw (has-cards_where (λ j. has_card a j || has_card c j) k l, has-cards_where (λ j. has_card a j || has_card b j) k l) (swap (has_card a k) (has_card b k) (has_card c k)))
  where
    swap : (x y z : Bool) → ((x || z) || y) ≡ ((x || y) || z)
    swap true y z = refl
    swap false true true = refl
    swap false true false = refl
    swap false false true = refl
    swap false false false = refl

pub far : (a b c : List ℕ) → union a (union b c) ≡ union (union a b) c
far a b c = cards_where_same _ _ (λ k l. rw (has-cards_where (λ j. has_card b j || has_card c j) k l, has-cards_where (λ j. has_card a j || has_card b j) k l) (assoc (has_card a k) (has_card b k) (has_card c k)))
  where
    assoc : (x y z : Bool) → (x || (y || z)) ≡ ((x || y) || z)
    assoc true y z = refl
    assoc false y z = refl

one_among : (g : Header) (players : ℕ) (h : List Event) → IsAccepted g players h → Among (board_on Flop h) (owned g.game h 0)
one_among g players h ok = board_among g players Flop h ok

two_among : (g : Header) (players : ℕ) (h : List Event) → IsAccepted g players h → Among (union (board_on Flop h) (board_on Turn h)) (owned g.game h 0)
two_among g players h ok = union_among _ _ _ (one_among g players h ok) (board_among g players Turn h ok)

three_among : (g : Header) (players : ℕ) (h : List Event) → IsAccepted g players h → Among (union (union (board_on Flop h) (board_on Turn h)) (board_on River h)) (owned g.game h 0)
three_among g players h ok = union_among _ _ _ (two_among g players h ok) (board_among g players River h ok)

-- where nothing comes to the board
same_sizes : (g : Header) (players : ℕ) (e : Event) (h : List Event) (a b c : ℕ) → board_on Flop (e ∷ h) ≡ board_on Flop h → board_on Turn (e ∷ h) ≡ board_on Turn h → board_on River (e ∷ h) ≡ board_on River h → owned g.game (e ∷ h) 0 ≡ owned g.game h 0 → Sizes g.game h a b c → Sizes g.game (e ∷ h) a b c
same_sizes g players e h a b c f t r o x = record {
  one = ap length f ∙ x.one;
  two = ap length (rw (f, t) refl) ∙ x.two;
  all = ap length (rw (f, t, r) refl) ∙ x.all;
  own = ap length o ∙ x.own;
}

pub quiet_sizes : (g : Header) (players : ℕ) (e : Event) (h : List Event) (a b c : ℕ) → IsAccepted g players (e ∷ h) → is_board e ≡ false → Sizes g.game h a b c → Sizes g.game (e ∷ h) a b c
quiet_sizes g players e h a b c ok plain x =
    same_sizes g players e h a b c (same_on g players Flop e h ok.2 (none_on Flop e plain)) (same_on g players Turn e h ok.2 (none_on Turn e plain)) (same_on g players River e h ok.2 (none_on River e plain)) (own_same g players e h ok plain) x

pub no_length : (xs : List ℕ) → length xs ≡ 0 → xs ≡ []
no_length [] e = refl
no_length (x ∷ xs) e = absurd (omega arith)

-- a marker gives its cards to the first board, or to the second
pub on_first : (s m : StreetName) (number : BoardNumber) (cards : List ℕ) → is_second number ≡ false → named_on s (Street m number cards) ≡ cards_if (same_street m (Some s)) cards
on_first s m board.Only cards first = refl
on_first s m board.First cards first = refl
on_first s m board.Second cards first = cc

place_first : (m : StreetName) (number : BoardNumber) (cards : List ℕ) → is_second number ≡ false → place_of (Street m number cards) ≡ 0
place_first m board.Only cards first = refl
place_first m board.First cards first = refl
place_first m board.Second cards first = cc

own_first : (g : Header) (players : ℕ) (s : StreetName) (number : BoardNumber) (cards : List ℕ) (h : List Event) → IsAccepted g players (Street s number cards ∷ h) → is_second number ≡ false → owned g.game (Street s number cards ∷ h) 0 ≡ union (owned g.game h 0) cards
own_first g players s number cards h ok first = own_step g players (Street s number cards) h 0 ok ∙ ap (λ q. if q == 0 then with_given g.game (Street s number cards) cards (owned g.game h 0) else owned g.game h 0) (place_first s number cards first) ∙ marker_given g.game s number cards cards (owned g.game h 0)

-- a marker with no cards
pub no_cards_on : (s m : StreetName) (number : BoardNumber) (cards : List ℕ) → cards ≡ [] → named_on s (Street m number cards) ≡ []
no_cards_on s m number cards none = by (is_second number) (same_street m (Some s))
  where
    by : (a b : Bool) → (if a then [] else cards_if b cards) ≡ []
    by true b = refl
    by false true = none
    by false false = refl

pub bare_sizes : (g : Header) (players : ℕ) (s : StreetName) (number : BoardNumber) (cards : List ℕ) (h : List Event) (a b c : ℕ) → IsAccepted g players (Street s number cards ∷ h) → length cards ≡ 0 → Sizes g.game h a b c → Sizes g.game (Street s number cards ∷ h) a b c
bare_sizes g players s number cards h a b c ok none x =
    let no_cards : cards ≡ [] = no_length cards none in
    let e : Event = Street s number cards in
    same_sizes g players e h a b c (same_on g players Flop e h ok.2 (no_cards_on Flop s number cards no_cards)) (same_on g players Turn e h ok.2 (no_cards_on Turn s number cards no_cards)) (same_on g players River e h ok.2 (no_cards_on River s number cards no_cards))
    (own_step g players e h 0 ok ∙ by (place_of e == 0) no_cards) x
  where
    by : (b : Bool) → cards ≡ [] → (if b then with_given g.game (Street s number cards) cards (owned g.game h 0) else owned g.game h 0) ≡ owned g.game h 0
    by true empty = nothing_given g.game (Street s number cards) (owned g.game h 0) (all_among g.game h 0).set empty
    by false empty = refl

-- a marker of the second board
pub second_sizes : (g : Header) (players : ℕ) (s : StreetName) (cards : List ℕ) (h : List Event) (a b c : ℕ) → IsAccepted g players (Street s board.Second cards ∷ h) → Sizes g.game h a b c → Sizes g.game (Street s board.Second cards ∷ h) a b c
second_sizes g players s cards h a b c ok x =
    let e : Event = Street s board.Second cards in
    same_sizes g players e h a b c (same_on g players Flop e h ok.2 refl) (same_on g players Turn e h ok.2 refl) (same_on g players River e h ok.2 refl) (own_step g players e h 0 ok) x

own_grows : (g : Header) (players : ℕ) (s : StreetName) (number : BoardNumber) (cards : List ℕ) (h : List Event) → IsAccepted g players (Street s number cards ∷ h) → is_second number ≡ false → ((k : ℕ) → has_card cards k ≡ true → k < 52) → length (owned g.game (Street s number cards ∷ h) 0) ≡ length (owned g.game h 0) + length cards
own_grows g players s number cards h ok first deck = ap length (own_first g players s number cards h ok first) ∙ marker_grows g players s number cards h (owned g.game h 0) ok deck (all_among g.game h 0)

-- what a board has on a street, with a marker of it, and with one of another
grown_on : (s : StreetName) (number : BoardNumber) (cards : List ℕ) (h : List Event) → is_second number ≡ false → cards_if (same_street s (Some s)) cards ≡ cards → board_on s (Street s number cards ∷ h) ≡ union (board_on s h) cards
grown_on s number cards h first mine = ap (union (board_on s h)) (on_first s s number cards first ∙ mine)

other_on : (g : Header) (players : ℕ) (s m : StreetName) (number : BoardNumber) (cards : List ℕ) (h : List Event) → IsAccepted g players h → is_second number ≡ false → cards_if (same_street m (Some s)) cards ≡ [] → board_on s (Street m number cards ∷ h) ≡ board_on s h
other_on g players s m number cards h ok first other = same_on g players s (Street m number cards) h ok (on_first s m number cards first ∙ other)

pub flop_sizes : (g : Header) (players : ℕ) (number : BoardNumber) (cards : List ℕ) (h : List Event) (a b c : ℕ) → IsAccepted g players (Street Flop number cards ∷ h) → is_second number ≡ false → ((k : ℕ) → has_card cards k ≡ true → k < 52) → Sizes g.game h a b c → Sizes g.game (Street Flop number cards ∷ h) (a + length cards) (b + length cards) (c + length cards)
flop_sizes g players number cards h a b c ok first deck x =
    let f : board_on Flop (Street Flop number cards ∷ h) ≡ union (board_on Flop h) cards = grown_on Flop number cards h first refl in
    let t : board_on Turn (Street Flop number cards ∷ h) ≡ board_on Turn h = other_on g players Turn Flop number cards h ok.2 first refl in
    let r : board_on River (Street Flop number cards ∷ h) ≡ board_on River h = other_on g players River Flop number cards h ok.2 first refl in
    let two : union (board_on Flop (Street Flop number cards ∷ h)) (board_on Turn (Street Flop number cards ∷ h)) ≡ union (union (board_on Flop h) (board_on Turn h)) cards = rw (f, t) (mid (board_on Flop h) (board_on Turn h) cards) in
    let three : union (union (board_on Flop (Street Flop number cards ∷ h)) (board_on Turn (Street Flop number cards ∷ h))) (board_on River (Street Flop number cards ∷ h)) ≡ union (union (union (board_on Flop h) (board_on Turn h)) (board_on River h)) cards =
    rw (two, r) (mid (union (board_on Flop h) (board_on Turn h)) (board_on River h) cards) in
    record {
      one = ap length f ∙ marker_grows g players Flop number cards h _ ok deck (one_among g players h ok.2) ∙ ap (λ n. n + length cards) x.one;
      two = ap length two ∙ marker_grows g players Flop number cards h _ ok deck (two_among g players h ok.2) ∙ ap (λ n. n + length cards) x.two;
      all = ap length three ∙ marker_grows g players Flop number cards h _ ok deck (three_among g players h ok.2) ∙ ap (λ n. n + length cards) x.all;
      own = own_grows g players Flop number cards h ok first deck ∙ ap (λ n. n + length cards) x.own;
    }

pub turn_sizes : (g : Header) (players : ℕ) (number : BoardNumber) (cards : List ℕ) (h : List Event) (a b c : ℕ) → IsAccepted g players (Street Turn number cards ∷ h) → is_second number ≡ false → ((k : ℕ) → has_card cards k ≡ true → k < 52) → Sizes g.game h a b c → Sizes g.game (Street Turn number cards ∷ h) a (b + length cards) (c + length cards)
turn_sizes g players number cards h a b c ok first deck x =
    let f : board_on Flop (Street Turn number cards ∷ h) ≡ board_on Flop h = other_on g players Flop Turn number cards h ok.2 first refl in
    let t : board_on Turn (Street Turn number cards ∷ h) ≡ union (board_on Turn h) cards = grown_on Turn number cards h first refl in
    let r : board_on River (Street Turn number cards ∷ h) ≡ board_on River h = other_on g players River Turn number cards h ok.2 first refl in
    let two : union (board_on Flop (Street Turn number cards ∷ h)) (board_on Turn (Street Turn number cards ∷ h)) ≡ union (union (board_on Flop h) (board_on Turn h)) cards = rw (f, t) (far (board_on Flop h) (board_on Turn h) cards) in
    let three : union (union (board_on Flop (Street Turn number cards ∷ h)) (board_on Turn (Street Turn number cards ∷ h))) (board_on River (Street Turn number cards ∷ h)) ≡ union (union (union (board_on Flop h) (board_on Turn h)) (board_on River h)) cards =
    rw (two, r) (mid (union (board_on Flop h) (board_on Turn h)) (board_on River h) cards) in
    record {
      one = ap length f ∙ x.one;
      two = ap length two ∙ marker_grows g players Turn number cards h _ ok deck (two_among g players h ok.2) ∙ ap (λ n. n + length cards) x.two;
      all = ap length three ∙ marker_grows g players Turn number cards h _ ok deck (three_among g players h ok.2) ∙ ap (λ n. n + length cards) x.all;
      own = own_grows g players Turn number cards h ok first deck ∙ ap (λ n. n + length cards) x.own;
    }

pub river_sizes : (g : Header) (players : ℕ) (number : BoardNumber) (cards : List ℕ) (h : List Event) (a b c : ℕ) → IsAccepted g players (Street River number cards ∷ h) → is_second number ≡ false → ((k : ℕ) → has_card cards k ≡ true → k < 52) → Sizes g.game h a b c → Sizes g.game (Street River number cards ∷ h) a b (c + length cards)
river_sizes g players number cards h a b c ok first deck x =
    let f : board_on Flop (Street River number cards ∷ h) ≡ board_on Flop h = other_on g players Flop River number cards h ok.2 first refl in
    let t : board_on Turn (Street River number cards ∷ h) ≡ board_on Turn h = other_on g players Turn River number cards h ok.2 first refl in
    let r : board_on River (Street River number cards ∷ h) ≡ union (board_on River h) cards = grown_on River number cards h first refl in
    let three : union (union (board_on Flop (Street River number cards ∷ h)) (board_on Turn (Street River number cards ∷ h))) (board_on River (Street River number cards ∷ h)) ≡ union (union (union (board_on Flop h) (board_on Turn h)) (board_on River h)) cards =
    rw (f, t, r) (far (union (board_on Flop h) (board_on Turn h)) (board_on River h) cards) in
    record {
      one = ap length f ∙ x.one;
      two = ap length (rw (f, t) refl) ∙ x.two;
      all = ap length three ∙ marker_grows g players River number cards h _ ok deck (three_among g players h ok.2) ∙ ap (λ n. n + length cards) x.all;
      own = own_grows g players River number cards h ok first deck ∙ ap (λ n. n + length cards) x.own;
    }

-- before the first event
pub nothing_owned : (game : Game) → owned game [] 0 ≡ []
nothing_owned game = none-cards_where (λ card. false) (λ k l. refl)
