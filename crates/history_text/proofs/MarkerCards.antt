-- A line that says a marker gives it as many cards as come with its street.
use Rattle.std.proofs.Common.{◌≡◌, ℕ, ◌+◌, ◌*◌, ◌<◌, List, [], ◌∷◌, refl, sym, Bool, true, false, ◌==◌, ◌||◌, ◌-◌, length, drop, arith}
use Rattle.std.specs.Prelude.{Option, Some, None, IfSome, Result, Ok, Err, IfOk, is_some, if◌then◌else◌, option_map, option_and_then, position, codes, nat_le, nat_lt}
use Rattle.std.specs.List.{list_any, position_or_len}
use Rattle.std.specs.Str.{bytes_eq}
use Rattle.card_sets.specs.Cards.{has_card}
use Rattle.card_sets.specs.CardText.{card_of_letters, rank_letters, suit_letters}
use Rattle.card_sets.specs.declared.games.Game.{Game}
use Rattle.hand_events.specs.declared.events.Header.{Header}
use Rattle.hand_events.specs.declared.events.Part.{Part}
use Rattle.hand_events.specs.declared.events.Part.TheVariants.{Preamble, Play, Summary as SummaryPart}
use Rattle.hand_events.specs.declared.events.PostKind.{PostKind}
use Rattle.hand_events.specs.declared.events.PostKind.TheVariants.{Small, Big, Both, Ante, BringIn}
use Rattle.history_text.specs.declared.verbs.Verb.{Verb}
use Rattle.history_text.specs.declared.verbs.Verb.TheVariants.{PostsSmall, PostsBig, PostsBoth, PostsAnte, BringsIn, Folds, Checks, Calls, Bets, Raises, Shows, Mucks, DoesntShow, Discards, StandsPat, SitsOut, IsSittingOut}
use Rattle.hand_events.specs.declared.events.Act.TheVariants.{Check}
use Rattle.card_sets.specs.declared.streets.Street.{Street}
use Rattle.hand_events.specs.declared.events.BoardNumber.{BoardNumber}
use Rattle.hand_events.specs.declared.events.Event.{Event}
use Rattle.hand_events.specs.declared.events.Event.TheVariants as event
use Rattle.hand_events.specs.declared.events.TextFault.{TextFault}
use Rattle.hand_events.specs.declared.events.TextFault.TheVariants.{BadCards, BadAction, BadMarker, Cancelled, BadHeader, BadAmount}
use Rattle.history_text.specs.Texts.{behind, cut_last, cut_first}
use Rattle.history_text.specs.Reading.{◌>>=◌, ◌otherwise◌, or_fault, is_end, some_money, follows, all_in_end, money, seat_front}
use Rattle.history_text.specs.Brackets.{closed, counted_cards, cards_of, card_words, at_most_ten, shown_cards, shown_counts}
use Rattle.history_text.specs.Names.{front_name}
use Rattle.hand_events.specs.Names.{seat_named}
use Rattle.card_sets.specs.Games.{has_bring_in, has_draw}
use Rattle.history_text.specs.Acts.{at_end, post, call, bet, raise, perhaps_cards, fold, show, discard_behind, discard, behind_card, is_discarded, pat, verb_event, act_event, verb_of}
use Rattle.history_text.specs.Plays.{act_line, deal_end, deal_once, deal_again, deal_cards, deal, deal_line, give_back, return_line, pot_of, collect, collect_line, cancel_line, play_event, dealt_counts, drawn_counts}
use Rattle.history_text.specs.Seats.{seat_opening, free_name, seat_event, seat_line, button_event, button_end, button_line, preamble_event}
use Rattle.history_text.specs.Totals.{total_event, total_line, seat_among, last_shown, seat_cards, show_line, summary_event}
use Rattle.card_sets.specs.Streets.{board_count}
use Rattle.history_text.specs.Markers.{street_event, marker_of, marker_event, marker_line}
use Rattle.history_text.specs.Lines.{line_event}
use Rattle.hand_events.specs.MarkerCards.{HasCards, MarkerFits}

-- what a reader answers has a property
record Ends (P : Event → Type 0) (r : Result Event TextFault) : Type 0 where
  holds : IfOk r P

record Says (P : Event → Type 0) (o : Option (Result Event TextFault)) : Type 0 where
  holds : IfSome o (λ r. IfOk r P)

-- readers one after the other, and kinds of lines one after the other
reads : {A : Type 0} {P : Event → Type 0} {f : A → Result Event TextFault} (a : Result A TextFault) → ((x : A) → Ends P (f x)) → Ends P (a >>= f)
reads {A} {P} {f} a h = by a
  where
    by : (r : Result A TextFault) → Ends P (r >>= f)
    by (Ok x) = h x
    by (Err e) = record { holds = tt }

reads_with : {A : Type 0} {P : Event → Type 0} {f : A → Result Event TextFault} (a : Result A TextFault) (Q : A → Type 0) → IfOk a Q → ((x : A) → Q x → Ends P (f x)) → Ends P (a >>= f)
reads_with {A} {P} {f} a Q q h = by a q
  where
    by : (r : Result A TextFault) → IfOk r Q → Ends P (r >>= f)
    by (Ok x) q = h x q
    by (Err e) q = record { holds = tt }

says : {P : Event → Type 0} {e : Event} → P e → Ends P (Ok e)
says p = record { holds = p }

with_equation : {P : Event → Type 0} {x y : Result Event TextFault} (b : Bool) → (b ≡ true → Ends P x) → (b ≡ false → Ends P y) → Ends P (if b then x else y)
with_equation true p q = p refl
with_equation false p q = q refl

fails : {P : Event → Type 0} {e : TextFault} → Ends P (Err e)
fails = record { holds = tt }

either : {P : Event → Type 0} {x y : Result Event TextFault} (b : Bool) → Ends P x → Ends P y → Ends P (if b then x else y)
either true p q = p
either false p q = q

kinds : {P : Event → Type 0} {o : Option (Result Event TextFault)} {y : Result Event TextFault} → Says P o → Ends P y → Ends P (o otherwise y)
kinds {P} {o} {y} p q = by o p
  where
    by : (k : Option (Result Event TextFault)) → Says P k → Ends P (k otherwise y)
    by None p = q
    by (Some r) p = record { holds = p.holds }

mapped : {A : Type 0} {P : Event → Type 0} {f : A → Result Event TextFault} (o : Option A) → ((x : A) → Ends P (f x)) → Says P (option_map f o)
mapped {A} {P} {f} o h = by o
  where
    by : (k : Option A) → Says P (option_map f k)
    by None = record { holds = tt }
    by (Some x) = record { holds = (h x).holds }

then_says : {A : Type 0} {P : Event → Type 0} {f : A → Option (Result Event TextFault)} (o : Option A) → ((x : A) → Says P (f x)) → Says P (option_and_then f o)
then_says {A} {P} {f} o h = by o
  where
    by : (k : Option A) → Says P (option_and_then f k)
    by None = record { holds = tt }
    by (Some x) = h x

-- the cards of a bracket are of the deck
abbrev AreOfDeck : List ℕ → Type 0
AreOfDeck cards = (card : ℕ) → has_card cards card ≡ true → card < 52

position_below : (p : ℕ → Bool) (xs : List ℕ) → IfSome (position p xs) (λ n. n < length xs)
position_below p xs = by (nat_lt (position_or_len p xs) (length xs)) refl
  where
    by : (b : Bool) → nat_lt (position_or_len p xs) (length xs) ≡ b → IfSome (if b then Some (position_or_len p xs) else None) (λ n. n < length xs)
    by true e = grind arith
    by false e = tt

deck_more : (card : ℕ) (cards : List ℕ) → card < 52 → AreOfDeck cards → AreOfDeck (card ∷ cards)
deck_more card cards l all k h = by (card == k) refl h
  where
    by : (b : Bool) → (card == k) ≡ b → (b || has_card cards k) ≡ true → k < 52
    by true e h = let i : card ≡ k = grind arith in omega (arith, i, l)
    by false e h = all k h

letters_by : (o q : Option ℕ) → IfSome o (λ rank. rank < 13) → IfSome q (λ suit. suit < 4) → IfSome (option_and_then (λ rank. option_and_then (λ suit. Some (4 * rank + suit)) q) o) (λ card. card < 52)
letters_by None q r s = tt
letters_by (Some rank) None r s = tt
letters_by (Some rank) (Some suit) r s = omega (arith, r, s)

letters_deck : (r s : ℕ) → IfSome (card_of_letters r s) (λ card. card < 52)
unfolding card_of_letters
letters_deck r s = letters_by (position (λ c. c == r) rank_letters) (position (λ c. c == s) suit_letters) (position_below (λ c. c == r) rank_letters) (position_below (λ c. c == s) suit_letters)

one_deck : (o : Option ℕ) → IfSome o (λ card. card < 52) → IfSome (option_map (λ card. card ∷ []) o) AreOfDeck
one_deck None l = tt
one_deck (Some card) l = deck_more card [] l (λ k h. cc)

more_deck : (b : Bool) (o : Option ℕ) (q : Option (List ℕ)) → IfSome o (λ card. card < 52) → IfSome q AreOfDeck
    → IfSome (if b then option_and_then (λ card. option_map (λ cards. card ∷ cards) q) o else None) AreOfDeck
more_deck false o q l d = tt
more_deck true None q l d = tt
more_deck true (Some card) None l d = tt
more_deck true (Some card) (Some cards) l d = deck_more card cards l d

words_deck : (inner : List ℕ) → IfSome (card_words inner) AreOfDeck
words_deck [] = tt
words_deck (rank ∷ []) = tt
words_deck (rank ∷ suit ∷ []) = one_deck (card_of_letters rank suit) (letters_deck rank suit)
words_deck (rank ∷ suit ∷ gap ∷ rest) = more_deck (gap == 32) (card_of_letters rank suit) (card_words rest) (letters_deck rank suit) (words_deck rest)

-- a marker has as many cards as come with it
abbrev IsCounted : ℕ → List ℕ → Type 0
IsCounted n cards = (length cards ≡ n) × AreOfDeck cards

counted_by : (n : ℕ) (o : Option (List ℕ)) → IfSome o AreOfDeck → IfOk (or_fault BadCards (option_and_then (λ cards. at_most_ten cards) o) >>= λ cards. if list_any (λ count. count == length cards) (n ∷ []) then Ok cards else Err BadCards) (IsCounted n)
counted_by n None d = tt
counted_by n (Some cards) d = few (nat_le (length cards) 10)
  where
    size : (b : Bool) → (n == length cards) ≡ b → IfOk (if b || false then Ok cards else Err BadCards) (IsCounted n)
    size true e = (let same : length cards ≡ n = grind arith in same, d)
    size false e = tt

    few : (b : Bool) → IfOk (or_fault BadCards (if b then Some cards else None) >>= λ cards. if list_any (λ count. count == length cards) (n ∷ []) then Ok cards else Err BadCards) (IsCounted n)
    few true = size (n == length cards) refl
    few false = tt

counted : (n : ℕ) (inner : List ℕ) → IfOk (counted_cards (n ∷ []) inner) (IsCounted n)
unfolding counted_cards cards_of
counted n inner = counted_by n (card_words inner) (words_deck inner)

street_fits : (game : Game) (number : BoardNumber) (street : Street) (text : List ℕ) → Ends (MarkerFits game) (street_event game number street text)
unfolding street_event
street_fits game number street text = with_equation (board_count game street == 0)
    (λ e. says (none (let z : board_count game street ≡ 0 = grind arith in z)))
    (λ e. reads (or_fault BadCards (cut_last (codes "[") text)) (λ last. reads (closed last.1) (λ cut. reads_with (counted_cards (board_count game street ∷ []) cut.0) (IsCounted (board_count game street)) (counted (board_count game street) cut.0) (λ cards q. says (record { many = q.0; deck = q.1 })))))
  where
    none : board_count game street ≡ 0 → HasCards game street []
    none e = record { many = sym e; deck = λ card h. cc }

marker_fits : (g : Header) (text : List ℕ) → Ends (MarkerFits g.game) (marker_event g text)
unfolding marker_event
marker_fits g text = reads (or_fault BadMarker (marker_of g.game text)) (λ marker. street_fits g.game marker.0.0 marker.0.1 marker.1)

marker_line_fits : (g : Header) (line : List ℕ) → Says (MarkerFits g.game) (marker_line g line)
unfolding marker_line
marker_line_fits g line = mapped (behind (codes "*** ") line) (λ text. marker_fits g text)

-- the other lines say no marker
end_fits : (game : Game) (e : Event) (text : List ℕ) → MarkerFits game e → Ends (MarkerFits game) (at_end e text)
end_fits game e text p = either (is_end text) (says p) fails

post_fits : (g : Header) (seat : ℕ) (kind : PostKind) (text : List ℕ) → Ends (MarkerFits g.game) (post g seat kind text)
unfolding post
post_fits g seat kind text = reads (some_money g.hundredths text) (λ paid. reads (all_in_end paid.1) (λ all_in. says tt))

call_fits : (g : Header) (seat : ℕ) (text : List ℕ) → Ends (MarkerFits g.game) (call g seat text)
unfolding call
call_fits g seat text = reads (some_money g.hundredths text) (λ paid. reads (all_in_end paid.1) (λ all_in. says tt))

bet_fits : (g : Header) (seat : ℕ) (text : List ℕ) → Ends (MarkerFits g.game) (bet g seat text)
unfolding bet
bet_fits g seat text = reads (some_money g.hundredths text) (λ paid. reads (all_in_end paid.1) (λ all_in. says tt))

raise_fits : (g : Header) (seat : ℕ) (text : List ℕ) → Ends (MarkerFits g.game) (raise g seat text)
unfolding raise
raise_fits g seat text = reads (some_money g.hundredths text) (λ by. reads (follows (codes " to ") by.1) (λ rest. reads (some_money g.hundredths rest) (λ to. reads (all_in_end to.1) (λ all_in. says tt))))

fold_fits : (game : Game) (seat : ℕ) (text : List ℕ) → Ends (MarkerFits game) (fold seat text)
unfolding fold
fold_fits game seat text = reads (perhaps_cards shown_counts text) (λ cards. says tt)

show_fits : (game : Game) (seat : ℕ) (text : List ℕ) → Ends (MarkerFits game) (show seat text)
unfolding show
show_fits game seat text = reads (shown_cards text) (λ cards. says tt)

discard_behind_fits : (game : Game) (seat count : ℕ) (text : List ℕ) → Ends (MarkerFits game) (discard_behind seat count text)
unfolding discard_behind
discard_behind_fits game seat count text = reads (or_fault BadAction (behind_card text)) (λ rest. reads (perhaps_cards (count ∷ []) rest) (λ cards. says tt))

discard_fits : (game : Game) (seat : ℕ) (text : List ℕ) → Ends (MarkerFits game) (discard seat text)
unfolding discard
discard_fits game seat [] = fails
discard_fits game seat (digit ∷ text) = either (is_discarded digit) (discard_behind_fits game seat (digit - 48) text) fails

pat_fits : (game : Game) (seat : ℕ) (text : List ℕ) → Ends (MarkerFits game) (pat seat text)
unfolding pat
pat_fits game seat text = either (is_end text) (says tt) (reads (or_fault BadAction (behind (codes " on ") text)) (λ rest. says tt))

verb_event_fits : (g : Header) (seat : ℕ) (verb : Verb) (text : List ℕ) → Ends (MarkerFits g.game) (verb_event g seat verb text)
unfolding verb_event
verb_event_fits g seat PostsSmall text = post_fits g seat Small text
verb_event_fits g seat PostsBig text = post_fits g seat Big text
verb_event_fits g seat PostsBoth text = post_fits g seat Both text
verb_event_fits g seat PostsAnte text = post_fits g seat Ante text
verb_event_fits g seat BringsIn text = either (has_bring_in g.game) (post_fits g seat BringIn text) fails
verb_event_fits g seat Folds text = fold_fits g.game seat text
verb_event_fits g seat Checks text = end_fits g.game (event.Act seat Check false []) text tt
verb_event_fits g seat Calls text = call_fits g seat text
verb_event_fits g seat Bets text = bet_fits g seat text
verb_event_fits g seat Raises text = raise_fits g seat text
verb_event_fits g seat Shows text = show_fits g.game seat text
verb_event_fits g seat Mucks text = end_fits g.game (event.Muck seat) text tt
verb_event_fits g seat DoesntShow text = end_fits g.game (event.Muck seat) text tt
verb_event_fits g seat Discards text = either (has_draw g.game) (discard_fits g.game seat text) fails
verb_event_fits g seat StandsPat text = either (has_draw g.game) (pat_fits g.game seat text) fails
verb_event_fits g seat SitsOut text = end_fits g.game event.Remark text tt
verb_event_fits g seat IsSittingOut text = end_fits g.game event.Remark text tt

act_fits : (g : Header) (seat : ℕ) (text : List ℕ) → Ends (MarkerFits g.game) (act_event g seat text)
unfolding act_event
act_fits g seat text = reads (or_fault BadAction (verb_of text)) (λ verb. verb_event_fits g seat verb.0 verb.1)

act_line_fits : (names : List (ℕ × List ℕ)) (g : Header) (line : List ℕ) → Says (MarkerFits g.game) (act_line names g line)
unfolding act_line
act_line_fits names g line = mapped (front_name (codes ": ") line names) (λ who. act_fits g who.seat who.rest)

deal_end_fits : (game : Game) (seat : ℕ) (drawn : Bool) (cards text : List ℕ) → MarkerFits game (deal_end seat drawn cards text)
deal_end_fits game seat drawn cards text = by (is_end text)
  where
    by : (b : Bool) → MarkerFits game (if b then event.Deal seat cards drawn else event.Remark)
    by true = tt
    by false = tt

deal_once_fits : (game : Game) (seat : ℕ) (cut : List ℕ × List ℕ) → Ends (MarkerFits game) (deal_once game seat cut)
unfolding deal_once
deal_once_fits game seat cut = reads (counted_cards (dealt_counts game) cut.0) (λ cards. says (deal_end_fits game seat false cards cut.1))

deal_again_fits : (game : Game) (seat : ℕ) (inside : List ℕ) → Ends (MarkerFits game) (deal_again game seat inside)
unfolding deal_again
deal_again_fits game seat inside = reads (closed inside) (λ cut. reads (counted_cards (drawn_counts game) cut.0) (λ cards. says (deal_end_fits game seat true cards cut.1)))

deal_cards_fits : (game : Game) (seat : ℕ) (inside : List ℕ) → Ends (MarkerFits game) (deal_cards game seat inside)
unfolding deal_cards
deal_cards_fits game seat inside = reads (closed inside) (λ cut. kinds (mapped (behind (codes " [") cut.1) (λ second. deal_again_fits game seat second)) (deal_once_fits game seat cut))

deal_fits : (names : List (ℕ × List ℕ)) (g : Header) (text : List ℕ) → Ends (MarkerFits g.game) (deal names g text)
unfolding deal
deal_fits names g text = kinds (mapped (front_name (codes " [") text names) (λ who. deal_cards_fits g.game who.seat who.rest)) (either (is_some (seat_named text names)) (says tt) fails)

deal_line_fits : (names : List (ℕ × List ℕ)) (g : Header) (line : List ℕ) → Says (MarkerFits g.game) (deal_line names g line)
unfolding deal_line
deal_line_fits names g line = mapped (behind (codes "Dealt to ") line) (λ text. deal_fits names g text)

back_fits : (names : List (ℕ × List ℕ)) (g : Header) (text : List ℕ) → Ends (MarkerFits g.game) (give_back names g text)
unfolding give_back
back_fits names g text = reads (some_money g.hundredths text) (λ back. reads (follows (codes ") returned to ") back.1) (λ name. reads (or_fault BadAction (seat_named name names)) (λ seat. says tt)))

return_line_fits : (names : List (ℕ × List ℕ)) (g : Header) (line : List ℕ) → Says (MarkerFits g.game) (return_line names g line)
unfolding return_line
return_line_fits names g line = mapped (behind (codes "Uncalled bet (") line) (λ text. back_fits names g text)

collect_fits : (g : Header) (seat : ℕ) (text : List ℕ) → Ends (MarkerFits g.game) (collect g seat text)
unfolding collect
collect_fits g seat text = reads (some_money g.hundredths text) (λ won. reads (follows (codes " from ") won.1) (λ rest. reads (or_fault BadAction (pot_of rest)) (λ pot. says tt)))

collect_line_fits : (names : List (ℕ × List ℕ)) (g : Header) (line : List ℕ) → Says (MarkerFits g.game) (collect_line names g line)
unfolding collect_line
collect_line_fits names g line = mapped (front_name (codes " collected ") line names) (λ who. collect_fits g who.seat who.rest)

cancel_line_fits : (game : Game) (line : List ℕ) → Says (MarkerFits game) (cancel_line line)
unfolding cancel_line
cancel_line_fits game line = by (bytes_eq line (codes "Hand cancelled") || bytes_eq line (codes "Hand canceled"))
  where
    by : (b : Bool) → Says (MarkerFits game) (if b then Some (Err Cancelled) else None)
    by true = record { holds = tt }
    by false = record { holds = tt }

play_fits : (names : List (ℕ × List ℕ)) (g : Header) (line : List ℕ) → Ends (MarkerFits g.game) (play_event names g line)
unfolding play_event
play_fits names g line =
    kinds (act_line_fits names g line) (kinds (deal_line_fits names g line) (kinds (return_line_fits names g line)
    (kinds (collect_line_fits names g line) (kinds (marker_line_fits g line) (kinds (cancel_line_fits g.game line) (says tt))))))

seat_fits : (names : List (ℕ × List ℕ)) (g : Header) (first : ℕ) (number : Option ℕ) (text before : List ℕ) → Ends (MarkerFits g.game) (seat_event names g first number text before)
unfolding seat_event
seat_fits names g first number text before =
    reads (or_fault BadHeader number) (λ seat. reads (or_fault BadHeader (cut_last (codes " (") before)) (λ cut. reads (free_name names seat cut.0) (λ name. reads (money g.hundredths (drop (length name + 2) text)) (λ stack. reads (follows (codes " in chips") stack.1) (λ rest. says tt)))))

seat_line_fits : (names : List (ℕ × List ℕ)) (g : Header) (line : List ℕ) → Says (MarkerFits g.game) (seat_line names g line)
unfolding seat_line
seat_line_fits names g line = then_says (seat_opening line) (λ opening. mapped (cut_last (codes " in chips") opening.1) (λ cut. seat_fits names g _ opening.0 opening.1 cut.0))

button_fits : (game : Game) (number : Option ℕ) → MarkerFits game (button_event number)
button_fits game None = tt
button_fits game (Some seat) = tt

button_end_fits : (game : Game) (number : Option ℕ × List ℕ) → Says (MarkerFits game) (button_end number)
button_end_fits game number = by (bytes_eq number.1 (codes " is the button"))
  where
    by : (b : Bool) → Says (MarkerFits game) (if b then Some (Ok (button_event number.0)) else None)
    by true = record { holds = button_fits game number.0 }
    by false = record { holds = tt }

button_line_fits : (game : Game) (line : List ℕ) → Says (MarkerFits game) (button_line line)
unfolding button_line
button_line_fits game line = then_says (option_and_then (λ cut. seat_front cut.1) (option_and_then (λ text. cut_last (codes "Seat #") text) (behind (codes "Table '") line))) (λ number. button_end_fits game number)

preamble_fits : (names : List (ℕ × List ℕ)) (g : Header) (line : List ℕ) → Ends (MarkerFits g.game) (preamble_event names g line)
unfolding preamble_event
preamble_fits names g line = kinds (seat_line_fits names g line) (kinds (button_line_fits g.game line) (play_fits names g line))

total_fits : (g : Header) (text : List ℕ) → Ends (MarkerFits g.game) (total_event g text)
unfolding total_event
total_fits g text = reads (money g.hundredths text) (λ pot. reads (or_fault BadAmount (cut_first (codes " | Rake ") pot.1)) (λ cut. reads (money g.hundredths cut.1) (λ rake. says tt)))

total_line_fits : (g : Header) (line : List ℕ) → Says (MarkerFits g.game) (total_line g line)
unfolding total_line
total_line_fits g line = mapped (behind (codes "Total pot ") line) (λ text. total_fits g text)

seat_cards_fits : (game : Game) (seat : ℕ) (inside : List ℕ) → Ends (MarkerFits game) (seat_cards seat inside)
unfolding seat_cards
seat_cards_fits game seat inside = reads (shown_cards inside) (λ cards. says tt)

show_line_fits : (names : List (ℕ × List ℕ)) (game : Game) (line : List ℕ) → Says (MarkerFits game) (show_line names line)
unfolding show_line
show_line_fits names game line = then_says (seat_opening line) (λ opening. then_says (seat_among names opening.0) (λ seat. mapped (last_shown opening.1) (λ cut. seat_cards_fits game seat cut.1)))

summary_fits : (names : List (ℕ × List ℕ)) (g : Header) (line : List ℕ) → Ends (MarkerFits g.game) (summary_event names g line)
unfolding summary_event
summary_fits names g line = kinds (total_line_fits g line) (kinds (show_line_fits names g.game line) (says tt))

ends_at : (names : List (ℕ × List ℕ)) (g : Header) (part : Part) (line : List ℕ) → Ends (MarkerFits g.game) (line_event names g part line)
ends_at names g Preamble line = preamble_fits names g line
ends_at names g Play line = play_fits names g line
ends_at names g SummaryPart line = summary_fits names g line

pub line_fits : (names : List (ℕ × List ℕ)) (g : Header) (part : Part) (line : List ℕ) → IfOk (line_event names g part line) (MarkerFits g.game)
line_fits names g part line = (ends_at names g part line).holds
