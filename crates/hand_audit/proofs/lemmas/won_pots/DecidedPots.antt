-- After a total line of an accepted hand: where a pot has two players or more, the board is whole, and final cards that are known
-- are whole hands that share no card with it.
use Rattle.std.proofs.Common.{◌≡◌, ℕ, zero, suc, ◌+◌, ◌<◌, ◌≤◌, List, [], ◌∷◌, ◌++◌, refl, sym, ap, ◌∙◌, subst, Bool, true, false, ◌==◌, ◌&&◌, ◌||◌, inl, inr, length, length-append, arith}
use Rattle.std.specs.Prelude.{Option, Some, None, is_some, unwrap_or, IfSome, if◌then◌else◌, nat_lt, slice_index_or}
use Rattle.std.specs.Int.{bit_at}
use Rattle.std.specs.List.{list_any}
use Rattle.card_sets.specs.PlayerSets.{has_player, players_from, seats_in}
use Rattle.card_sets.specs.Cards.{cards_where, minus, union}
use Rattle.card_sets.specs.Bits.{IsCardSet-cards_where}
use Rattle.card_sets.specs.Games.{board_size}
use Rattle.card_sets.specs.declared.games.Game.{Game}
use Rattle.card_sets.specs.declared.games.Game.TheVariants.{Holdem, Omaha, Omaha8, Stud, Stud8, Razz, Draw5, Lowball27, Triple27}
use Rattle.hand_events.specs.declared.events.Header.{Header}
use Rattle.hand_events.specs.declared.events.Event.{Event}
use Rattle.hand_events.specs.declared.events.Event.TheVariants.{Street, Deal, Act, Show, SeatCards}
use Rattle.hand_events.specs.declared.events.Part.{Part}
use Rattle.hand_events.specs.declared.events.Part.TheVariants.{Preamble, Play, Summary as SummaryPart}
use Rattle.card_sets.specs.declared.streets.Street.{Street as StreetName}
use Rattle.card_sets.specs.declared.streets.Street.TheVariants.{First, Flop, Turn, Fourth, Fifth, Sixth, River, Draw, FirstDraw, SecondDraw, ThirdDraw, ShowDown, Summary}
use Rattle.pot_layers.specs.declared.paid.Pot.{Pot}
use Rattle.pot_layers.specs.Pots.{pots}
use Rattle.pot_layers.specs.Eligible.{ExcludesFolded, is_contender as contends}
use Rattle.betting_replay.specs.Accepted.{IsAccepted, ShowsSeats}
use Rattle.betting_replay.specs.Accounts.{paid_by}
use Rattle.betting_replay.specs.Boards.{shared, second_own, second_by, second_board}
use Rattle.betting_replay.specs.CardLaws.{PlacesAreApart, CardsBelong, CardsBelongAfter, Among, MarkersFit, HasBoard, HasEnded, WholeBoards, has_ended, ends}
use Rattle.betting_replay.specs.Events.{seat_of, SeatFits}
use Rattle.betting_replay.specs.Hands.{held, held_after, dealt, dealt_by, shown, shown_by, shown_after, whole, is_discard, if_many}
use Rattle.betting_replay.specs.Known.{final_cards, final_by, holding_of}
use Rattle.betting_replay.specs.Dealing.{marked, hides}
use Rattle.betting_replay.specs.Places.{owned, is_at, place, thrown, thrown_by}
use Rattle.betting_replay.specs.Seats.{by_seat, count_below, or_else}
use Rattle.betting_replay.specs.Sums.{last_begun, is_last_of, runs_twice, second_street, second_begun}
use Rattle.betting_replay.specs.Table.{ReplayState, final_at}
use Rattle.betting_replay.specs.TableAfter.{table_of}
use Rattle.betting_replay.specs.Turns.{is_contender, contender_count}
use Rattle.betting_replay.proofs.CallerLemmas.{at_by_seat, apart_among}
use Rattle.card_sets.proofs.CallerLemmas.{no_more}
use Rattle.showdown_tally.specs.Laws.{IsFull}
use Rattle.hand_audit.specs.Lines.{part_after, part_of}
use Rattle.hand_audit.specs.Settle.{Showing}
use Rattle.hand_audit.specs.Showings.{paid_from, paid_in, second_if, showing_at, showing_of}
use Rattle.hand_audit.specs.Winning.{AreFullOn, AreFull, AreDecided}
use Rattle.hand_audit.proofs.lemmas.seats.SeatLists.{seats_more}

-- in the summary the hand has ended
ended_by : (h : List Event) (e : Event) (p : Part) → (p ≡ SummaryPart → has_ended h ≡ true) → part_after e p ≡ SummaryPart → (ends e || has_ended h) ≡ true
ended_by h (Street Summary number cards) p k is = refl
ended_by h (Street ShowDown number cards) p k is = refl
ended_by h (Street First number cards) Preamble k is = cc
ended_by h (Street First number cards) Play k is = k is
ended_by h (Street First number cards) SummaryPart k is = k is
ended_by h (Street Flop number cards) p k is = k is
ended_by h (Street Turn number cards) p k is = k is
ended_by h (Street Fourth number cards) p k is = k is
ended_by h (Street Fifth number cards) p k is = k is
ended_by h (Street Sixth number cards) p k is = k is
ended_by h (Street River number cards) p k is = k is
ended_by h (Street Draw number cards) p k is = k is
ended_by h (Street FirstDraw number cards) p k is = k is
ended_by h (Street SecondDraw number cards) p k is = k is
ended_by h (Street ThirdDraw number cards) p k is = k is
ended_by h _ p k is = k is

ended_in : (h : List Event) → part_of h ≡ SummaryPart → has_ended h ≡ true
ended_in [] is = cc
ended_in (e ∷ h) is = ended_by h e (part_of h) (ended_in h) is

-- number 0 is no seat, and has no cards
nothing_dealt : (e : Event) → SeatFits e → (seat_of e == 0) ≡ true → dealt_by e ≡ []
nothing_dealt (Deal seat cards drawn) fits none = let z : seat ≡ 0 = grind arith in absurd (omega (arith, z, fits.0))
nothing_dealt _ fits none = refl

nothing_shown : (e : Event) → SeatFits e → (seat_of e == 0) ≡ true → shown_by e ≡ []
nothing_shown (Act seat act all_in cards) fits none = let z : seat ≡ 0 = grind arith in absurd (omega (arith, z, fits.0))
nothing_shown (Show seat cards) fits none = let z : seat ≡ 0 = grind arith in absurd (omega (arith, z, fits.0))
nothing_shown (SeatCards seat cards) fits none = let z : seat ≡ 0 = grind arith in absurd (omega (arith, z, fits.0))
nothing_shown _ fits none = refl

nobody_dealt : (g : Header) (players : ℕ) (h : List Event) → IsAccepted g players h → dealt h 0 ≡ []
nobody_dealt g players [] ok = refl
nobody_dealt g players (e ∷ h) ok = by (seat_of e == 0) refl (nobody_dealt g players h ok.2)
  where
    by : (b : Bool) → (seat_of e == 0) ≡ b → dealt h 0 ≡ [] → (if b then union (dealt h 0) (dealt_by e) else dealt h 0) ≡ []
    by true none rest = ap (λ xs. union xs (dealt_by e)) rest ∙ ap (union []) (nothing_dealt e ok.0.seats none) ∙ no_more
    by false other rest = rest

not_whole : (game : Game) → whole game [] ≡ None
not_whole Holdem = ap (if_many 2) no_more
not_whole Omaha = ap (if_many 4) no_more
not_whole Omaha8 = ap (if_many 4) no_more
not_whole Stud = ap (if_many 7) no_more
not_whole Stud8 = ap (if_many 7) no_more
not_whole Razz = ap (if_many 7) no_more
not_whole Draw5 = ap (if_many 5) no_more
not_whole Lowball27 = ap (if_many 5) no_more
not_whole Triple27 = ap (if_many 5) no_more

nobody_shown : (g : Header) (players : ℕ) (h : List Event) → IsAccepted g players h → shown g h 0 ≡ None
nobody_shown g players [] ok = refl
nobody_shown g players (e ∷ h) ok = by (seat_of e == 0) refl (nobody_shown g players h ok.2)
  where
    after : (b : Bool) → (seat_of e == 0) ≡ true → (if b then None else or_else (whole g.game (shown_by e)) None) ≡ None
    after true none = refl
    after false none = ap (λ cards. or_else (whole g.game cards) None) (nothing_shown e ok.0.seats none) ∙ ap (λ o. or_else o None) (not_whole g.game)

    by : (b : Bool) → (seat_of e == 0) ≡ b → shown g h 0 ≡ None → (if b then shown_after g.game e (shown g h 0) else shown g h 0) ≡ None
    by true none rest = ap (shown_after g.game e) rest ∙ after (is_discard e) none
    by false other rest = rest

not_seven : (cards : List ℕ) → length cards ≡ 0 → if_many 7 cards ≡ None
not_seven cards none = let f : (length cards == 7) ≡ false = grind arith in rw f refl

nothing_left : (thrown : List ℕ) → minus [] thrown ≡ []
unfolding cards_where
nothing_left thrown = refl

not_drawn : (hidden : Bool) (cards : List ℕ) → cards ≡ [] → (if hidden then None else if_many 5 cards) ≡ None
not_drawn true cards none = refl
not_drawn false cards none = ap (if_many 5) none

nobody_held : (g : Header) (players : ℕ) (h : List Event) → IsAccepted g players h → held h 0 ≡ []
nobody_held g players [] ok = refl
nobody_held g players (e ∷ h) ok = by (seat_of e == 0) refl (nobody_held g players h ok.2)
  where
    by : (b : Bool) → (seat_of e == 0) ≡ b → held h 0 ≡ [] → (if b then held_after e (held h 0) else held h 0) ≡ []
    by true none rest =
        ap (λ xs. minus (union xs (dealt_by e)) (thrown_by e)) rest
        ∙ ap (λ xs. minus (union [] xs) (thrown_by e)) (nothing_dealt e ok.0.seats none)
        ∙ ap (λ xs. minus xs (thrown_by e)) no_more ∙ nothing_left (thrown_by e)
    by false other rest = rest

final_nobody : (g : Header) (players : ℕ) (h : List Event) (game : Game) → g.game ≡ game → IsAccepted g players h → length (owned g.game h 0) ≡ board_size game → final_cards g h 0 ≡ None
final_nobody g players h Holdem is ok size =
    ap (λ game. final_by game (holding_of g h 0)) is ∙ ap (λ o. or_else o (if_many 2 (dealt h 0))) (nobody_shown g players h ok) ∙ ap (if_many 2) (nobody_dealt g players h ok)
final_nobody g players h Omaha is ok size =
    ap (λ game. final_by game (holding_of g h 0)) is ∙ ap (λ o. or_else o (if_many 4 (dealt h 0))) (nobody_shown g players h ok) ∙ ap (if_many 4) (nobody_dealt g players h ok)
final_nobody g players h Omaha8 is ok size =
    ap (λ game. final_by game (holding_of g h 0)) is ∙ ap (λ o. or_else o (if_many 4 (dealt h 0))) (nobody_shown g players h ok) ∙ ap (if_many 4) (nobody_dealt g players h ok)
final_nobody g players h Stud is ok size = ap (λ game. final_by game (holding_of g h 0)) is ∙ not_seven (owned g.game h 0) size
final_nobody g players h Stud8 is ok size = ap (λ game. final_by game (holding_of g h 0)) is ∙ not_seven (owned g.game h 0) size
final_nobody g players h Razz is ok size = ap (λ game. final_by game (holding_of g h 0)) is ∙ not_seven (owned g.game h 0) size
final_nobody g players h Draw5 is ok size =
    ap (λ game. final_by game (holding_of g h 0)) is ∙ ap (λ o. or_else o (if marked hides h 0 then None else if_many 5 (minus (dealt h 0) (thrown h)))) (nobody_shown g players h ok)
    ∙ not_drawn (marked hides h 0) (minus (dealt h 0) (thrown h)) (ap (λ cards. minus cards (thrown h)) (nobody_dealt g players h ok) ∙ nothing_left (thrown h))
final_nobody g players h Lowball27 is ok size =
    ap (λ game. final_by game (holding_of g h 0)) is ∙ ap (λ o. or_else o (if marked hides h 0 then None else if_many 5 (minus (dealt h 0) (thrown h)))) (nobody_shown g players h ok)
    ∙ not_drawn (marked hides h 0) (minus (dealt h 0) (thrown h)) (ap (λ cards. minus cards (thrown h)) (nobody_dealt g players h ok) ∙ nothing_left (thrown h))
final_nobody g players h Triple27 is ok size =
    ap (λ game. final_by game (holding_of g h 0)) is ∙ ap (λ o. or_else o (if marked hides h 0 then None else if_many 5 (held h 0))) (nobody_shown g players h ok)
    ∙ not_drawn (marked hides h 0) (held h 0) (nobody_held g players h ok)

-- final cards that are known are whole, on a whole board
full_hand : PlacesAreApart → (g : Header) (players : ℕ) (h : List Event) (p : ℕ) (o : Option (List ℕ)) → CardsBelong g players h → length (owned g.game h 0) ≡ board_size g.game → (p == 0) ≡ false → final_cards g h p ≡ o
    → IfSome o (λ own. IsFull g.game own (owned g.game h 0))
full_hand apart g players h p None belong size seat is = tt
full_hand apart g players h p (Some own) belong size seat is =
    let among : Among own (owned g.game h p) = belong.final p own is in
    let board : Among (owned g.game h 0) (owned g.game h 0) = record { set = IsCardSet-cards_where (λ card. is_at 0 (place g.game h card)); each = λ card has. has } in
    record { own_cards = among.set; board_cards = board.set; own_size = belong.whole p own is; board_size = size; apart = apart_among own (owned g.game h 0) (owned g.game h p) (owned g.game h 0) among board (apart g.game h p 0 seat) }

-- where the second board has come to the last street, final cards that are known are whole on it too
pub record HasSecond (g : Header) (h : List Event) : Type 0 where
  pub twice : runs_twice h ≡ true → second_begun g h ≡ true

some_again : (o : Option (List ℕ)) (cards : List ℕ) → is_some o ≡ true → Some (unwrap_or o []) ≡ Some cards → o ≡ Some cards
some_again None cards some is = cc
some_again (Some found) cards some is = is

second_some : (g : Header) (h : List Event) → second_begun g h ≡ true → is_some (second_board h) ≡ true
second_some g h begun = by (second_street h) refl begun
  where
    by : (o : Option StreetName) → second_street h ≡ o → is_last_of g.game o ≡ true → is_some (second_by o (shared h) (second_own h)) ≡ true
    by None e last = cc
    by (Some street) e last = refl

second_is : (g : Header) (h : List Event) (second : List ℕ) → HasSecond g h → second_if (runs_twice h) (second_board h) ≡ Some second → second_board h ≡ Some second
second_is g h second has is = by (runs_twice h) refl is
  where
    by : (b : Bool) → runs_twice h ≡ b → second_if b (second_board h) ≡ Some second → second_board h ≡ Some second
    by false e is = cc
    by true e is = some_again (second_board h) second (second_some g h (has.twice e)) is

second_long : (g : Header) (players : ℕ) (h : List Event) (second : List ℕ) → HasBoard g players h → HasSecond g h → second_if (runs_twice h) (second_board h) ≡ Some second → length second ≡ board_size g.game
second_long g players h second board has is = by (runs_twice h) refl is
  where
    by : (b : Bool) → runs_twice h ≡ b → second_if b (second_board h) ≡ Some second → length second ≡ board_size g.game
    by false e is = cc
    by true e is = board.second_last (has.twice e) second (some_again (second_board h) second (second_some g h (has.twice e)) is)

second_hand : (g : Header) (players : ℕ) (h : List Event) (p : ℕ) (o : Option (List ℕ)) (second : List ℕ) → CardsBelong g players h → second_board h ≡ Some second → length second ≡ board_size g.game → (p == 0) ≡ false → p < 11
    → final_cards g h p ≡ o → IfSome o (λ own. IsFull g.game own second)
second_hand g players h p None second belong is size seat l final = tt
second_hand g players h p (Some own) second belong is size seat l final =
    let among : Among own (owned g.game h p) = belong.final p own final in
    record { own_cards = among.set; board_cards = belong.second_set second is; own_size = belong.whole p own final; board_size = size; apart = belong.final_and_second p seat l own second final is }

-- the hands of all seats, the first of which is no seat
each_hand : (g : Header) (players : ℕ) (h : List Event) (board : List ℕ) (p : ℕ) → IsAccepted g players h → length (owned g.game h 0) ≡ board_size g.game
    → ((p == 0) ≡ false → IfSome (final_cards g h p) (λ own. IsFull g.game own board)) → IfSome (final_cards g h p) (λ own. IsFull g.game own board)
each_hand g players h board p ok size seat = by (p == 0) refl
  where
    by : (b : Bool) → (p == 0) ≡ b → IfSome (final_cards g h p) (λ own. IsFull g.game own board)
    by true e =
        let z : p ≡ 0 = grind arith in
        let none : final_cards g h p ≡ None = ap (final_cards g h) z ∙ final_nobody g players h g.game refl ok size in
        subst (λ (o : Option (List ℕ)). IfSome o (λ own. IsFull g.game own board)) (sym none) tt
    by false e = seat e

shown_full : ShowsSeats → (g : Header) (players : ℕ) (h : List Event) (board : List ℕ) → ((p : ℕ) → p < 11 → IfSome (final_cards g h p) (λ own. IsFull g.game own board)) → AreFullOn (showing_of g players h) board
unfolding showing_of showing_at
shown_full shows g players h board full p l =
    let hand : slice_index_or (by_seat (final_at (table_of g players h))) p None ≡ final_cards g h p = at_by_seat (final_at (table_of g players h)) p None l ∙ (shows g players h p l).final in
    subst (λ (o : Option (List ℕ)). IfSome o (λ own. IsFull g.game own board)) (sym hand) (full p l)

first_board : ShowsSeats → (g : Header) (players : ℕ) (h : List Event) → (showing_of g players h).board ≡ owned g.game h 0
unfolding showing_of showing_at
first_board shows g players h = (shows g players h 0 (omega arith)).own

pub second_shown : (g : Header) (players : ℕ) (h : List Event) → (showing_of g players h).second ≡ second_if (runs_twice h) (second_board h)
unfolding showing_of showing_at
second_shown g players h = refl

all_full : PlacesAreApart → ShowsSeats → (g : Header) (players : ℕ) (h : List Event) → IsAccepted g players h → CardsBelong g players h → HasBoard g players h → length (owned g.game h 0) ≡ board_size g.game → HasSecond g h → AreFull (showing_of g players h)
all_full apart shows g players h ok belong board size has other (inl is) =
    let first : other ≡ owned g.game h 0 = is ∙ first_board shows g players h in
    subst (λ (b : List ℕ). AreFullOn (showing_of g players h) b) (sym first)
    (shown_full shows g players h (owned g.game h 0) (λ p l. each_hand g players h (owned g.game h 0) p ok size (λ seat. full_hand apart g players h p (final_cards g h p) belong size seat refl)))
all_full apart shows g players h ok belong board size has other (inr is) =
    let second : second_if (runs_twice h) (second_board h) ≡ Some other = sym (second_shown g players h) ∙ is in
    shown_full shows g players h other
    (λ p l. each_hand g players h other p ok size (λ seat. second_hand g players h p (final_cards g h p) other belong (second_is g h other has second) (second_long g players h other board has second) seat l refl))

-- who may win a pot is a contender
contender_from : (t : ReplayState) (p n seat : ℕ) → list_any (λ x. (x.seat == seat) && x.contender) (paid_from t p n) ≡ true → is_contender t seat ≡ true
unfolding paid_by
contender_from t p zero seat has = cc
contender_from t p (suc n) seat has = by (has_player t.players p) has (contender_from t (p + 1) n seat)
  where
    here : (a b : Bool) → (p == seat) ≡ a → is_contender t p ≡ b → ((a && b) || list_any (λ x. (x.seat == seat) && x.contender) (paid_from t (p + 1) n)) ≡ true
        → (list_any (λ x. (x.seat == seat) && x.contender) (paid_from t (p + 1) n) ≡ true → is_contender t seat ≡ true) → is_contender t seat ≡ true
    here true true e c h later = let same : p ≡ seat = grind arith in ap (is_contender t) (sym same) ∙ c
    here true false e c h later = later h
    here false b e c h later = later h

    by : (b : Bool) → list_any (λ x. (x.seat == seat) && x.contender) (if b then paid_by t p ∷ paid_from t (p + 1) n else paid_from t (p + 1) n) ≡ true
        → (list_any (λ x. (x.seat == seat) && x.contender) (paid_from t (p + 1) n) ≡ true → is_contender t seat ≡ true) → is_contender t seat ≡ true
    by true h later = here (p == seat) (is_contender t p) refl refl h later
    by false h later = later h

contends_is : (t : ReplayState) (seat : ℕ) → contends (paid_in t) seat ≡ true → is_contender t seat ≡ true
unfolding paid_in
contends_is t seat has = contender_from t 1 10 seat has

-- a set whose seats pass a test has no more of them than do
one_more : (a b : Bool) (m n : ℕ) → m ≤ n → (a ≡ true → b ≡ true) → m + (if a then 1 else 0) ≤ n + (if b then 1 else 0)
one_more true true m n l h = omega (arith, l)
one_more true false m n l h = let e = h refl in cc
one_more false true m n l h = omega (arith, l)
one_more false false m n l h = omega (arith, l)

last_long : (b : Bool) (xs : List ℕ) (p : ℕ) → length (xs ++ (if b then p ∷ [] else [])) ≡ length xs + (if b then 1 else 0)
last_long true xs p = length-append xs (p ∷ [])
last_long false xs p = length-append xs []

no_more_than : (f : ℕ → Bool) (w n : ℕ) → ((p : ℕ) → (bit_at w p == 1) ≡ true → f p ≡ true) → length (players_from w 1 n) ≤ count_below f (suc n)
no_more_than f w zero h = omega arith
no_more_than f w (suc n) h =
    let next : suc n ≡ n + 1 = omega arith in
    let here : 1 + n ≡ suc n = omega arith in
    let long : length (players_from w 1 (suc n)) ≡ length (players_from w 1 n) + (if bit_at w (suc n) == 1 then 1 else 0)
    = ap (λ k. length (players_from w 1 k)) next ∙ ap length (seats_more w 1 n) ∙ last_long (bit_at w (1 + n) == 1) (players_from w 1 n) (1 + n) ∙ ap (λ k. length (players_from w 1 n) + (if bit_at w k == 1 then 1 else 0)) here in
    let more = one_more (bit_at w (suc n) == 1) (f (suc n)) (length (players_from w 1 n)) (count_below f (suc n)) (no_more_than f w n h) (h (suc n)) in
    rw long more

few_contenders : (t : ReplayState) (w : ℕ) → ((p : ℕ) → (bit_at w p == 1) ≡ true → is_contender t p ≡ true) → length (seats_in w) ≤ contender_count t
unfolding contender_count
few_contenders t w h = no_more_than (is_contender t) w 10 h

-- so each pot is decided
abbrev OnlyContenders : ReplayState → ℕ → Type 0
OnlyContenders t w = (p : ℕ) → (bit_at w p == 1) ≡ true → is_contender t p ≡ true

in_order : (s : Showing) (t : ReplayState) (xs : List Pot) → (2 ≤ contender_count t → AreFull s) → ((k : ℕ) (d : Pot) → k < length xs → OnlyContenders t (slice_index_or xs k d).eligible) → AreDecided s xs
in_order s t [] full all = tt
in_order s t (pot ∷ xs) full all =
    (λ many. full (let few = few_contenders t pot.eligible (all 0 pot (omega arith)) in omega (arith, few, many)), in_order s t xs full (λ k d l. all (suc k) d (omega (arith, l))))

only_contenders : ExcludesFolded → (t : ReplayState) (k : ℕ) (d : Pot) → k < length (pots (paid_in t)) → OnlyContenders t (slice_index_or (pots (paid_in t)) k d).eligible
only_contenders law t k d l p set = by (contends (paid_in t) p) refl
  where
    by : (b : Bool) → contends (paid_in t) p ≡ b → is_contender t p ≡ true
    by true e = contends_is t p e
    by false e =
        let off : has_player (slice_index_or (pots (paid_in t)) k d).eligible p ≡ false = law (paid_in t) p e k d l in cc

begun : (last : Bool) (count : ℕ) → (last || nat_lt count 2) ≡ true → 2 ≤ count → last ≡ true
begun true count h many = refl
begun false count h many = let f : nat_lt count 2 ≡ false = grind arith in cc

pub decided : PlacesAreApart → CardsBelongAfter → WholeBoards → ShowsSeats → ExcludesFolded → (g : Header) (players : ℕ) (h : List Event) → IsAccepted g players h → MarkersFit g.game h → part_of h ≡ SummaryPart
    → AreDecided (showing_of g players h) (pots (paid_in (table_of g players h)))
decided apart belong boards shows folded g players h ok markers ended =
    let t = table_of g players h in
    let end : HasEnded g players h = boards.ends g players h ok in
    let board : HasBoard g players h = boards.boards g players h ok markers in
    let last : 2 ≤ contender_count t → last_begun g h ≡ true = λ many. begun (last_begun g h) (contender_count t) (end.played (ended_in h ended)) many in
    let second : 2 ≤ contender_count t → HasSecond g h = (λ many. record { twice = λ twice. begun (second_begun g h) (contender_count t) (end.twice (ended_in h ended) twice) many }) in
    in_order (showing_of g players h) t (pots (paid_in t))
    (λ many. all_full apart shows g players h ok (belong g players h ok) board (board.last (last many)) (second many))
    (λ k d l. only_contenders folded t k d l)
