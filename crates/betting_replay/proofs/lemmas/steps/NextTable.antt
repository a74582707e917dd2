-- After an event that may stand, the table that counted it stands for the hand with it.
use Rattle.std.proofs.Common.{◌≡◌, ℕ, ◌+◌, ◌-◌, ◌<◌, List, [], ◌∷◌, refl, sym, ap, ◌∙◌, Bool, true, false, arith, map, subst, ◌||◌, ◌&&◌, ◌==◌}
use Rattle.std.specs.Prelude.{Option, Some, None, is_some, slice_index_or, slice_set, if◌then◌else◌}
use Rattle.card_sets.specs.Cards.{union, minus, IsCardSet}
use Rattle.card_sets.specs.declared.games.Game.{Game}
use Rattle.card_sets.specs.declared.streets.Street.{Street as StreetName}
use Rattle.card_sets.specs.declared.streets.Street.TheVariants.{Flop, Turn, River}
use Rattle.card_sets.specs.Bits.{IsCardSet-cards_where}
use Rattle.card_sets.proofs.CallerLemmas.{union-nil, minus-nil}
use Rattle.hand_events.specs.declared.events.Header.{Header}
use Rattle.hand_events.specs.declared.events.Event.{Event}
use Rattle.hand_events.specs.declared.events.BoardNumber.TheVariants as board
use Rattle.hand_events.specs.declared.events.Event.TheVariants.{Seat, Button, Post, Deal, Street, Act, Uncalled, Collect, Show, Muck, SeatCards, Discard, Pat}
use Rattle.betting_replay.specs.declared.boards.Board.{Board}
use Rattle.betting_replay.specs.declared.course.Course.{Course}
use Rattle.hand_events.specs.declared.faults.BetFault.{BetFault}
use Rattle.betting_replay.specs.declared.points.Point.{Point}
use Rattle.betting_replay.specs.declared.seats.Chips.{Chips}
use Rattle.betting_replay.specs.declared.seats.Acts.{Acts}
use Rattle.betting_replay.specs.declared.seats.Deals.{Deals}
use Rattle.betting_replay.specs.declared.seats.SeatDraws.{SeatDraws}
use Rattle.betting_replay.specs.declared.seats.LastDraw.{LastDraw}
use Rattle.betting_replay.specs.declared.seats.SeatState.{SeatState}
use Rattle.betting_replay.specs.Seats.{by_seat, or_else}
use Rattle.betting_replay.specs.Events.{seat_of, bought, returned, live_in, dead_in, ante_in, put_in, posts_small, brings_in, folds, is_act, is_seat_line, cards_named, SeatFits}
use Rattle.betting_replay.specs.Streets.{begins, begins_on, marker_after, begins_later_by, is_later, is_first}
use Rattle.betting_replay.specs.Sums.{street, button, is_later_by, is_last_of, small_posted, seated, live, dead, paid, stack, folded, acted, brought_in}
use Rattle.betting_replay.specs.Places.{place_of, cards_given, place, is_at, owned, named, thrown, thrown_by, barred, with_given, is_board, is_free, first_twice}
use Rattle.betting_replay.specs.TableAfter.{ReplayState, StandsFor, table_of, table_with, point, chips_of, acts_of, seat_state, course_of, no_seat, own_at}
use Rattle.betting_replay.specs.Boards.{board_on, second_on, board_of, second_of, board_after, second_after}
use Rattle.betting_replay.specs.Hands.{dealt as dealt_cards, held as held_cards, held_after, shown as shown_cards, row as row_cards, dealt_by, shown_after, row_by}
use Rattle.betting_replay.specs.Dealing.{deals_of, draws_of, is_late, last_draw_of, deals_after, draws_after, last_draw_after}
use Rattle.betting_replay.specs.Counting.{chips_after, acts_after, seat_paid, seat_dealt, moves_cards, showdowns_after, course_after, paid_after, dealt_after, dealt_if, noted_after, cleared_chips, cleared_acts, cleared_seat, cleared_if, on_street, begun_with, begun, counted, pointed, after}
use Rattle.betting_replay.specs.Faults.{fault_at, card_twice, fault_with}
use Rattle.betting_replay.proofs.lemmas.points.PointByMoment.{same_now}
use Rattle.betting_replay.proofs.lemmas.seats.SeatLists.{at_by_seat, map_by_seat, same_by_seat, set_by_seat, with_at}
use Rattle.betting_replay.proofs.lemmas.seats.SeatStates.{own_is}
use Rattle.betting_replay.proofs.lemmas.steps.PassedTests.{passed}
use Rattle.betting_replay.proofs.lemmas.steps.UnmovedCards.{IsBare, is_bare, are_sets, same_board, same_second, same_cards}
use Rattle.betting_replay.proofs.lemmas.places.CardSets.{board_set, second_set, thrown_set}
use Rattle.betting_replay.proofs.lemmas.places.NextPlaces.{marker_given, named_after, nothing_given, owned_other, owned_here, lost_elsewhere}

-- something cleared, where a later street begins
abbrev pub cleared_where : {A : Type 0} → Bool → (A → A) → A → A
cleared_where true clear x = clear x
cleared_where false clear x = x

-- the chips of a seat, where a later street begins or not, and the event is about the seat or not
abbrev pub chips_now : Header → List Event → Event → ℕ → Bool → Bool → Chips
chips_now g h e p later here = record {
  seated = (here && is_seat_line e) || seated h p;
  stack = if here then stack g h p + (bought e + returned e) - put_in g.big (small_posted h) (live g h p) e else stack g h p;
  paid = if here then paid g h p + (ante_in e + live_in g.big (small_posted h) (live g h p) e) - returned e else paid g h p;
  dead = if here then dead g h p + dead_in g.big (small_posted h) e else dead g h p;
  live = if later then 0 else (if here then live g h p + live_in g.big (small_posted h) (live g h p) e - returned e else live g h p);
}

pub chips_case : (g : Header) (h : List Event) (e : Event) (p : ℕ) (later here : Bool) → chips_now g h e p later here ≡ cleared_where later cleared_chips (if here then chips_after g.big (small_posted h) e (chips_of g h p) else chips_of g h p)
chips_case g h e p true true = refl
chips_case g h e p true false = refl
chips_case g h e p false true = refl
chips_case g h e p false false = refl

abbrev acts_now : Header → List Event → Event → ℕ → Bool → Bool → Acts
acts_now g h e p later here = record {
  folded = (here && folds e) || folded h p;
  acted = if later then false else (here && is_act e) || acted g h p;
  brought_in = if later then false else (here && brings_in e) || brought_in g h p;
}

acts_case : (g : Header) (h : List Event) (e : Event) (p : ℕ) (later here : Bool) → acts_now g h e p later here ≡ cleared_where later cleared_acts (if here then acts_after e (acts_of g h p) else acts_of g h p)
acts_case g h e p true true = refl
acts_case g h e p true false = refl
acts_case g h e p false true = refl
acts_case g h e p false false = refl

-- what one seat has is changed
abbrev changed : {A : Type 0} → ℕ → (A → A) → (ℕ → A) → ℕ → A
changed s change f p = if s == p then change (f p) else f p

set_seat : {A : Type 0} (f : ℕ → A) (s : ℕ) (change : A → A) (d : A) → s < 11 → slice_set (by_seat f) s (change (slice_index_or (by_seat f) s d)) ≡ by_seat (changed s change f)
set_seat f s change d small =
    ap (λ x. slice_set (by_seat f) s (change x)) (at_by_seat f s d small)
    ∙ sym (set_by_seat f (change (f s)) s small)
    ∙ same_by_seat (with_at s (change (f s)) f) (changed s change f) (λ p low. at_seat p (s == p) refl)
  where
    at_seat : (p : ℕ) (b : Bool) → (s == p) ≡ b → with_at s (change (f s)) f p ≡ changed s change f p
    at_seat p true e = let is : s ≡ p = grind arith in rw e (ap (λ q. change (f q)) is)
    at_seat p false e = rw e refl

pub none_told : (f : ℕ → BetFault) (o : Option ℕ) → fault_with f o ≡ None → o ≡ None
none_told f None h = refl
none_told f (Some n) h = cc

pub own_case : (game : Game) (e : Event) (h : List Event) (before : List ℕ) → first_twice (is_free (named game h) (owned game h (seat_of e)) (is_board e)) before (cards_named e) ≡ None
    → (p : ℕ) (b : Bool) → (place_of e == p) ≡ b → owned game (e ∷ h) p ≡ (if b then with_given game e (cards_named e) (owned game h p) else owned game h p)
own_case game e h before none p true is = let same : place_of e ≡ p = grind arith in subst (λ (q : ℕ). owned game (e ∷ h) q ≡ with_given game e (cards_named e) (owned game h q)) same (owned_here game e h before none)
own_case game e h before none p false is = owned_other game e h p is (λ k l lost. lost_elsewhere game e h before p k none is l lost)

-- what a seat and the first board own, after an event
own_given : (game : Game) (e : Event) (h : List Event) (before : List ℕ) → first_twice (is_free (named game h) (owned game h (seat_of e)) (is_board e)) before (cards_named e) ≡ None
    → (p : ℕ) → p < 11 → owned game (e ∷ h) p ≡ (if seat_of e == p then with_given game e (cards_given e) (owned game h p) else owned game h p)
own_given game (Street s board.Second cards) h before none p small =
    let other : (11 == p) ≡ false = grind arith in
    own_case game (Street s board.Second cards) h before none p false other ∙ sym (by (0 == p))
  where
    set : IsCardSet (owned game h p)
    set = IsCardSet-cards_where (λ card. is_at p (place game h card))

    by : (b : Bool) → (if b then with_given game (Street s board.Second cards) [] (owned game h p) else owned game h p) ≡ owned game h p
    by true = marker_given game s board.Second cards [] (owned game h p) ∙ union-nil (owned game h p) set
    by false = refl
own_given game (Street s board.Only cards) h before none p small = own_case game (Street s board.Only cards) h before none p (0 == p) refl
own_given game (Street s board.First cards) h before none p small = own_case game (Street s board.First cards) h before none p (0 == p) refl
own_given game e h before none p small = own_case game e h before none p (seat_of e == p) refl

-- where an event may stand each of its cards is free
pub cards_free : (g : Header) (players : ℕ) (h : List Event) (found : Option Point) (e : Event) → seat_of e < 11 → fault_at (table_with g players h found) e ≡ None → first_twice (is_free (named g.game h) (owned g.game h (seat_of e)) (is_board e)) (barred g.game (thrown h)) (cards_named e) ≡ None
unfolding card_twice
cards_free g players h found e small legal =
    let t : ReplayState = table_with g players h found in
    let free : first_twice (is_free (named g.game h) (own_at t (seat_of e)) (is_board e)) (barred g.game (thrown h)) (cards_named e) ≡ None = none_told _ _ (passed t e legal).card in
    subst (λ (own : List ℕ). first_twice (is_free (named g.game h) own (is_board e)) (barred g.game (thrown h)) (cards_named e) ≡ None) (own_is g players h found (seat_of e) small) free

-- the chips, cards and draws of each seat after an event are told by those before it
deals_case : (g : Header) (h : List Event) (e : Event) (p : ℕ) (here : Bool) → (seat_of e == p) ≡ here → deals_of g (e ∷ h) p ≡ (if here then deals_after (street g h) e (deals_of g h p) else deals_of g h p)
deals_case g h e p true is = rw is refl
deals_case g h e p false is = rw is refl

draws_case : (h : List Event) (e : Event) (p : ℕ) (here : Bool) → (seat_of e == p) ≡ here → draws_of (e ∷ h) p ≡ (if here then draws_after e (draws_of h p) else draws_of h p)
draws_case h e p true is = rw is refl
draws_case h e p false is = rw is refl

last_case : (g : Header) (h : List Event) (e : Event) (p : ℕ) (here late : Bool) → (seat_of e == p) ≡ here → is_late g h e ≡ late
    → last_draw_of g (e ∷ h) p ≡ (if here then last_draw_after late e (last_draw_of g h p) else last_draw_of g h p)
last_case g h e p true true is when = rw (is, when) refl
last_case g h e p true false is when = rw (is, when) refl
last_case g h e p false true is when = rw is refl
last_case g h e p false false is when = rw is refl

-- what an event about a seat makes of its chips, and of its cards
abbrev paid_seat : Header → List Event → Event → SeatState → SeatState
paid_seat g h e = seat_paid g.big (small_posted h) e

abbrev dealt_seat : Header → List Event → Event → SeatState → SeatState
dealt_seat g h e = seat_dealt g.game (street g h) (is_late g h e) e

-- what all seats have with the event, where it moves cards or not, and before its street begins
abbrev paid_seats : Header → List Event → Event → ℕ → SeatState
paid_seats g h e = changed (seat_of e) (paid_seat g h e) (seat_state g h)

abbrev dealt_seats : Header → List Event → Event → ℕ → SeatState
dealt_seats g h e = changed (seat_of e) (dealt_seat g h e) (paid_seats g h e)

abbrev counted_seats : Bool → Header → List Event → Event → ℕ → SeatState
counted_seats true g h e = dealt_seats g h e
counted_seats false g h e = paid_seats g h e

-- the parts of a seat together
joined : (g : Header) (h : List Event) (e : Event) (s : SeatState) (later here : Bool)
    → ◌≡◌ {A = SeatState}
    (record {
      chips = cleared_where later cleared_chips (if here then chips_after g.big (small_posted h) e s.chips else s.chips);
      acts = cleared_where later cleared_acts (if here then acts_after e s.acts else s.acts);
      own = if here then with_given g.game e (cards_given e) s.own else s.own;
      dealt = if here then union s.dealt (dealt_by e) else s.dealt;
      held = if here then held_after e s.held else s.held;
      shown = if here then shown_after g.game e s.shown else s.shown;
      deals = if here then deals_after (street g h) e s.deals else s.deals;
      seven_shown = if here then or_else (row_by e) s.seven_shown else s.seven_shown;
      draws = if here then draws_after e s.draws else s.draws;
      last_draw = if here then last_draw_after (is_late g h e) e s.last_draw else s.last_draw;
    })
    (cleared_where later cleared_seat (if here then dealt_seat g h e (if here then paid_seat g h e s else s) else (if here then paid_seat g h e s else s)))
joined g h e s true true = refl
joined g h e s true false = refl
joined g h e s false true = refl
joined g h e s false false = refl

-- a seat after an event whose cards are free is told by those before it
seat_case : (g : Header) (h : List Event) (e : Event) (before : List ℕ) → first_twice (is_free (named g.game h) (owned g.game h (seat_of e)) (is_board e)) before (cards_named e) ≡ None
    → (p : ℕ) → p < 11 → seat_state g (e ∷ h) p ≡ cleared_where (is_later_by g h e) cleared_seat (dealt_seats g h e p)
seat_case g h e before free p small =
    put (chips_case g h e p (is_later_by g h e) (seat_of e == p)) (acts_case g h e p (is_later_by g h e) (seat_of e == p)) (own_given g.game e h before free p small)
    (deals_case g h e p (seat_of e == p) refl) (draws_case h e p (seat_of e == p) refl) (last_case g h e p (seat_of e == p) (is_late g h e) refl refl)
    ∙ joined g h e (seat_state g h p) (is_later_by g h e) (seat_of e == p)
  where
    put : {c c' : Chips} {a a' : Acts} {o o' : List ℕ} {d d' : Deals} {w w' : SeatDraws} {l l' : LastDraw} → c ≡ c' → a ≡ a' → o ≡ o' → d ≡ d' → w ≡ w' → l ≡ l'
        → ◌≡◌ {A = SeatState}
        (record { chips = c; acts = a; own = o; dealt = dealt_cards (e ∷ h) p; held = held_cards (e ∷ h) p; shown = shown_cards g (e ∷ h) p; deals = d; seven_shown = row_cards (e ∷ h) p; draws = w; last_draw = l })
        (record { chips = c'; acts = a'; own = o'; dealt = dealt_cards (e ∷ h) p; held = held_cards (e ∷ h) p; shown = shown_cards g (e ∷ h) p; deals = d'; seven_shown = row_cards (e ∷ h) p; draws = w'; last_draw = l' })
    put c a o d w l = cc

-- where it moves no card, its chips and acts are all that change
unmoved : (g : Header) (h : List Event) (e : Event) (p : ℕ) → IsBare e → dealt_seats g h e p ≡ paid_seats g h e p
unmoved g h e p bare = by (seat_of e == p)
  where
    s : SeatState
    s = seat_state g h p

    by : (here : Bool) → (if here then dealt_seat g h e (if here then paid_seat g h e s else s) else (if here then paid_seat g h e s else s)) ≡ (if here then paid_seat g h e s else s)
    by true = same_cards g.game (street g h) (is_late g h e) e s (chips_after g.big (small_posted h) e s.chips) (acts_after e s.acts) bare (are_sets g h p)
    by false = refl

-- the seats after the event
pub seats_case : (g : Header) (h : List Event) (e : Event) (before : List ℕ) (moves : Bool) → moves_cards e ≡ moves → first_twice (is_free (named g.game h) (owned g.game h (seat_of e)) (is_board e)) before (cards_named e) ≡ None
    → by_seat (seat_state g (e ∷ h)) ≡ cleared_where (is_later_by g h e) (map cleared_seat) (by_seat (counted_seats moves g h e))
seats_case g h e before moves is free =
    same_by_seat (seat_state g (e ∷ h)) (λ p. cleared_where (is_later_by g h e) cleared_seat (counted_seats moves g h e p)) (λ p small. seat_case g h e before free p small ∙ ap (cleared_where (is_later_by g h e) cleared_seat) (either moves is p))
    ∙ clears (is_later_by g h e)
  where
    either : (b : Bool) → moves_cards e ≡ b → (p : ℕ) → dealt_seats g h e p ≡ counted_seats b g h e p
    either true is p = refl
    either false is p = unmoved g h e p (is_bare e is)

    clears : (b : Bool) → by_seat (λ p. cleared_where b cleared_seat (counted_seats moves g h e p)) ≡ cleared_where b (map cleared_seat) (by_seat (counted_seats moves g h e))
    clears true = sym (map_by_seat cleared_seat (counted_seats moves g h e))
    clears false = refl

-- what lies open after an event that moves no card
pub named_same : (g : Header) (h : List Event) (e : Event) → IsBare e → named g.game (e ∷ h) ≡ named g.game h
named_same g h e bare = named_after g.game e h ∙ nothing_given g.game e (named g.game h) (IsCardSet-cards_where (λ card. is_some (place g.game h card))) bare.named

pub thrown_same : (h : List Event) (e : Event) → IsBare e → thrown (e ∷ h) ≡ thrown h
thrown_same h e bare =
    ap (λ cards. union (minus (thrown h) cards) (thrown_by e)) bare.named
    ∙ ap (λ cards. union cards (thrown_by e)) (minus-nil (thrown h) (thrown_set h))
    ∙ ap (union (thrown h)) bare.thrown
    ∙ union-nil (thrown h) (thrown_set h)

-- the boards are told by those before
pub board_case : (e : Event) (h : List Event) → board_after e (board_of h) ≡ board_of (e ∷ h)
board_case (Street s number cards) h = refl
board_case _ h =
    let flop : union (board_on Flop h) [] ≡ board_on Flop h = union-nil (board_on Flop h) (board_set Flop h) in
    let turn : union (board_on Turn h) [] ≡ board_on Turn h = union-nil (board_on Turn h) (board_set Turn h) in
    let river : union (board_on River h) [] ≡ board_on River h = union-nil (board_on River h) (board_set River h) in
    rw (flop, turn, river) refl

pub second_case : (e : Event) (h : List Event) → second_after e (second_of h) ≡ second_of (e ∷ h)
second_case (Street s number cards) h = refl
second_case _ h =
    let flop : union (second_on Flop h) [] ≡ second_on Flop h = union-nil (second_on Flop h) (second_set Flop h) in
    let turn : union (second_on Turn h) [] ≡ second_on Turn h = union-nil (second_on Turn h) (second_set Turn h) in
    let river : union (second_on River h) [] ≡ second_on River h = union-nil (second_on River h) (second_set River h) in
    rw (flop, turn, river) refl

-- the course of the hand with the event, before its street begins
abbrev noted : Event → Course → Course
noted e c = record c {
  small_posted = posts_small e || c.small_posted;
  last_actor = if is_act e then Some (seat_of e) else c.last_actor;
  marker = marker_after e c.marker;
  showdowns = showdowns_after e c.showdowns;
  split_from = or_else c.split_from (begins_on board.First e);
  second_street = or_else (begins_on board.Second e) c.second_street;
}

pub or_none : (o : Option StreetName) → or_else o None ≡ o
or_none None = refl
or_none (Some s) = refl

pub course_case : (e : Event) (c : Course) → course_after e c ≡ noted e c
course_case (Street s number cards) c = refl
course_case _ c = rw (or_none c.split_from) refl

-- a street begins, or doesn't
abbrev begun_case : ReplayState → Option StreetName → ReplayState
begun_case t o = record t {
  seats = cleared_where (begins_later_by o) (map cleared_seat) t.seats;
  course = record t.course {
    street = or_else o t.course.street;
    opened = is_first o || t.course.opened;
    last_begun = is_last_of t.header.game o || t.course.last_begun;
    last_actor = if begins_later_by o then None else t.course.last_actor;
  };
}

begins_so : (t : ReplayState) (o : Option StreetName) → begun_with o t ≡ begun_case t o
begins_so t None = refl
begins_so t (Some s) = by (is_later s) refl
  where
    by : (b : Bool) → is_later s ≡ b → cleared_if b (on_street t s) ≡ begun_case t (Some s)
    by true is = rw is refl
    by false is = rw is refl

-- the parts of a table together
pub alike : (g : Header) (players : ℕ) (at : ℕ) (found : Option Point) {seats seats' : List SeatState} {all all' gone gone' : List ℕ} {one one' two two' : Board} {course course' : Course}
    → seats ≡ seats' → all ≡ all' → gone ≡ gone' → one ≡ one' → two ≡ two' → course ≡ course'
    → ◌≡◌ {A = ReplayState}
    (record { header = g; players = players; seats = seats; named = all; thrown = gone; first_board = one; second_board = two; button = at; course = course; point = found })
    (record { header = g; players = players; seats = seats'; named = all'; thrown = gone'; first_board = one'; second_board = two'; button = at; course = course'; point = found })
alike g players at found a b c d e f = cc

-- the table with an event that counted, whose street hasn't begun yet
abbrev counted_table : Bool → Header → ℕ → List Event → Event → Option Point → ReplayState
counted_table moves g players h e found = record (table_with g players (e ∷ h) found) { seats = by_seat (counted_seats moves g h e); course = noted e (course_of g h) }

counts : (g : Header) (players : ℕ) (h : List Event) (e : Event) (found : Option Point) (moves : Bool) → moves_cards e ≡ moves → seat_of e < 11
    → noted_after (dealt_if moves e (paid_after (table_with g players h found) e)) e ≡ counted_table moves g players h e found
unfolding paid_after dealt_after noted_after
counts g players h e found true is small =
    let paid : slice_set (by_seat (seat_state g h)) (seat_of e) (paid_seat g h e (slice_index_or (by_seat (seat_state g h)) (seat_of e) no_seat)) ≡ by_seat (paid_seats g h e) = set_seat (seat_state g h) (seat_of e) (paid_seat g h e) no_seat small in
    let dealt : slice_set (by_seat (paid_seats g h e)) (seat_of e) (dealt_seat g h e (slice_index_or (by_seat (paid_seats g h e)) (seat_of e) no_seat)) ≡ by_seat (dealt_seats g h e) = set_seat (paid_seats g h e) (seat_of e) (dealt_seat g h e) no_seat small in
    alike g players (button (e ∷ h)) found (ap (λ xs. slice_set xs (seat_of e) (dealt_seat g h e (slice_index_or xs (seat_of e) no_seat))) paid ∙ dealt) (sym (named_after g.game e h)) refl (board_case e h) (second_case e h) (course_case e (course_of g h))
counts g players h e found false is small =
    alike g players (button (e ∷ h)) found (set_seat (seat_state g h) (seat_of e) (paid_seat g h e) no_seat small) (sym (named_same g h e (is_bare e is))) (sym (thrown_same h e (is_bare e is)))
    (sym (same_board e (board_of h) is) ∙ board_case e h) (sym (same_second e (second_of h) is) ∙ second_case e h) (course_case e (course_of g h))

-- the event counts, and its street begins
moved : (g : Header) (players : ℕ) (h : List Event) (e : Event) (found : Option Point) → seat_of e < 11 → fault_at (table_with g players h found) e ≡ None → begun (counted (table_with g players h found) e) e ≡ table_with g players (e ∷ h) found
unfolding begun counted
moved g players h e found small legal =
    let free : first_twice (is_free (named g.game h) (owned g.game h (seat_of e)) (is_board e)) (barred g.game (thrown h)) (cards_named e) ≡ None = cards_free g players h found e small legal in
    ap (λ t. begun_with (begins t.header.game t.course.street e) t) (counts g players h e found (moves_cards e) refl small)
    ∙ begins_so (counted_table (moves_cards e) g players h e found) (begins g.game (street g h) e)
    ∙ ap (λ seats. record (table_with g players (e ∷ h) found) { seats = seats }) (sym (seats_case g h e (barred g.game (thrown h)) (moves_cards e) refl free))

-- then the moment may be the point
pub stands : (g : Header) (players : ℕ) (h : List Event) (e : Event) → seat_of e < 11 → fault_at (table_of g players h) e ≡ None → after (table_of g players h) e ≡ table_of g players (e ∷ h)
unfolding pointed point
stands g players h e small legal = ap pointed (moved g players h e (point g players h) small legal) ∙ ap (λ o. table_with g players (e ∷ h) (or_else (point g players h) o)) (same_now g players (e ∷ h) (point g players h))

-- the same of any table that stands for the hand before
pub stands_after : (t : ReplayState) (e : Event) (g : Header) (players : ℕ) (h : List Event) → StandsFor t g players h → seat_of e < 11 → fault_at t e ≡ None → StandsFor (after t e) g players (e ∷ h)
stands_after t e g players h s small legal =
    let free : fault_at (table_of g players h) e ≡ None = subst (λ (u : ReplayState). fault_at u e ≡ None) s.is legal in
    record { is = ap (λ u. after u e) s.is ∙ stands g players h e small free }

pub seat_below : (e : Event) → SeatFits e → seat_of e < 11
seat_below (Seat seat units first end) h = omega arith
seat_below (Button seat) h = omega arith
seat_below (Post seat kind units all_in) h = omega arith
seat_below (Deal seat cards drawn) h = omega arith
seat_below (Act seat act all_in shown) h = omega arith
seat_below (Uncalled seat units) h = omega arith
seat_below (Collect seat units pot) h = omega arith
seat_below (Show seat cards) h = omega arith
seat_below (Muck seat) h = omega arith
seat_below (SeatCards seat cards) h = omega arith
seat_below (Discard seat count cards) h = omega arith
seat_below (Pat seat) h = omega arith
seat_below _ h = omega arith
