-- Whole hands, line by line: what each line says, by computation. A card is four times its rank, 0 for a deuce, and its suit:
-- clubs 0, diamonds 1, hearts 2, spades 3.
use Rattle.std.proofs.Common.{◌≡◌, ℕ, ◌-◌, true, false, List, [], ◌∷◌, ◌++◌, take, drop, map, refl}
use Rattle.std.specs.Prelude.{codes, Result, Ok}
use Rattle.card_sets.specs.CardText.{card_of_letters}
use Rattle.card_sets.specs.declared.games.Game.TheVariants as game
use Rattle.line_text.specs.Amounts.{written}
use Rattle.hand_events.specs.declared.events.Header.{Header}
use Rattle.hand_events.specs.declared.events.Limit.TheVariants as limit
use Rattle.hand_events.specs.declared.events.Part.{Part}
use Rattle.hand_events.specs.declared.events.Part.TheVariants as part
use Rattle.hand_events.specs.declared.events.Event.{Event}
use Rattle.hand_events.specs.declared.events.Event.TheVariants as event
use Rattle.hand_events.specs.declared.events.Act.TheVariants as act
use Rattle.hand_events.specs.declared.events.BoardNumber.TheVariants as board
use Rattle.hand_events.specs.declared.events.PostKind.TheVariants as kind
use Rattle.hand_events.specs.declared.events.PotName.TheVariants as pot
use Rattle.card_sets.specs.declared.streets.Street.TheVariants as street
use Rattle.hand_events.specs.declared.events.TextFault.{TextFault}
use Rattle.history_text.specs.Texts.{behind, first_place, last_place, cut_first, cut_last}
use Rattle.history_text.specs.Reading.{money, some_money, follows, all_in_end, seat_front}
use Rattle.history_text.specs.Names.{front_name}
use Rattle.history_text.specs.Brackets.{cards_of, counted_cards, closed, shown_cards}
use Rattle.history_text.specs.Acts.{verb_of, post, call, bet, raise, perhaps_cards, fold, show, discard_behind, discard, pat, verb_event, act_event}
use Rattle.history_text.specs.Markers.{street_event, street_for, marker_on, marker_of, marker_event, marker_line}
use Rattle.history_text.specs.Plays.{act_line, deal_once, deal_again, deal_cards, deal, deal_line, give_back, return_line, pot_of, collect, collect_line, cancel_line, play_event}
use Rattle.history_text.specs.Seats.{seat_opening, seat_event, seat_line, button_line, preamble_event}
use Rattle.history_text.specs.Totals.{total_event, total_line, last_shown, seat_cards, show_line, summary_event}
use Rattle.history_text.specs.Lines.{line_event}
use Rattle.history_text.specs.Headers.{title, is_header, hand_number, behind_start, word_before, game_of, stakes_at, with_stakes, header_behind, header_of}

-- a line, and what it says
abbrev Saying : Type 0
Saying = List ℕ × Result Event TextFault

-- after a seat line its name is one of the hand's
names_behind : List (ℕ × List ℕ) → List ℕ → Result Event TextFault → List (ℕ × List ℕ)
names_behind names line (Ok (event.Seat seat units first end)) = names ++ (seat, take (end - first) (drop first line)) ∷ []
names_behind names line _ = names

-- the first street's marker and that of the summary begin a part
part_behind : Part → Result Event TextFault → Part
part_behind here (Ok (event.Street street.First number cards)) = part.Play
part_behind here (Ok (event.Street street.Summary number cards)) = part.Summary
part_behind here _ = here

-- what the lines of a hand say, one after the other
lines_say : Header → List (ℕ × List ℕ) → Part → List Saying → List (Result Event TextFault)
lines_say header names here [] = []
lines_say header names here (s ∷ rest) =
    let said = line_event names header here s.0 in
    said ∷ lines_say header (names_behind names s.0 said) (part_behind here said) rest

-- a cash hand of six players
header_of_six : Header
header_of_six = record { game = game.Holdem; limit = limit.NoLimit; hundredths = true; big = 100 }

hand_of_six : List Saying
hand_of_six =
    (codes "Table 'Halley IV' 6-max Seat #3 is the button", Ok (event.Button 3)) ∷
    (codes "Seat 1: anna ($100 in chips)", Ok (event.Seat 1 10000 8 12)) ∷
    (codes "Seat 2: bo ($84.50 in chips)", Ok (event.Seat 2 8450 8 10)) ∷
    (codes "Seat 3: carl ($120.25 in chips)", Ok (event.Seat 3 12025 8 12)) ∷
    (codes "Seat 4: dora ($60 in chips)", Ok (event.Seat 4 6000 8 12)) ∷
    (codes "Seat 5: emil ($100 in chips)", Ok (event.Seat 5 10000 8 12)) ∷
    (codes "Seat 6: hero ($97 in chips)", Ok (event.Seat 6 9700 8 12)) ∷
    (codes "dora: posts small blind $0.50", Ok (event.Post 4 kind.Small 50 false)) ∷
    (codes "emil: posts big blind $1", Ok (event.Post 5 kind.Big 100 false)) ∷
    (codes "*** HOLE CARDS ***", Ok (event.Street street.First board.Only [])) ∷
    (codes "Dealt to hero [Qc 7d]", Ok (event.Deal 6 (40 ∷ 21 ∷ []) false)) ∷
    (codes "hero: folds", Ok (event.Act 6 act.Fold false [])) ∷
    (codes "anna has timed out", Ok event.Remark) ∷
    (codes "anna: folds", Ok (event.Act 1 act.Fold false [])) ∷
    (codes "bo: folds", Ok (event.Act 2 act.Fold false [])) ∷
    (codes "carl: raises $2 to $3", Ok (event.Act 3 (act.Raise 200 300) false [])) ∷
    (codes "dora: calls $2.50", Ok (event.Act 4 (act.Call 250) false [])) ∷
    (codes "emil: folds", Ok (event.Act 5 act.Fold false [])) ∷
    (codes "emil said, \"gl\"", Ok event.Remark) ∷
    (codes "*** FLOP *** [2s 9s Jd]", Ok (event.Street street.Flop board.Only (3 ∷ 31 ∷ 37 ∷ []))) ∷
    (codes "dora: checks", Ok (event.Act 4 act.Check false [])) ∷
    (codes "carl: bets $4", Ok (event.Act 3 (act.Bet 400) false [])) ∷
    (codes "dora: calls $4", Ok (event.Act 4 (act.Call 400) false [])) ∷
    (codes "*** TURN *** [2s 9s Jd] [5h]", Ok (event.Street street.Turn board.Only (14 ∷ []))) ∷
    (codes "dora: bets $53 and is all-in", Ok (event.Act 4 (act.Bet 5300) true [])) ∷
    (codes "carl: calls $53", Ok (event.Act 3 (act.Call 5300) false [])) ∷
    (codes "*** RIVER *** [2s 9s Jd 5h] [3c]", Ok (event.Street street.River board.Only (4 ∷ []))) ∷
    (codes "*** SHOW DOWN ***", Ok (event.Street street.ShowDown board.Only [])) ∷
    (codes "carl: shows [Jh Jc] (three of a kind, Jacks)", Ok (event.Show 3 (38 ∷ 36 ∷ []))) ∷
    (codes "dora: mucks hand", Ok (event.Muck 4)) ∷
    (codes "carl collected $118.50 from pot", Ok (event.Collect 3 11850 pot.Only)) ∷
    (codes "*** SUMMARY ***", Ok (event.Street street.Summary board.Only [])) ∷
    (codes "Total pot $121 | Rake $2.50", Ok (event.Total 12100 250)) ∷
    (codes "Board [2s 9s Jd 5h 3c]", Ok event.Remark) ∷
    (codes "Seat 1: anna folded before Flop (didn't bet)", Ok event.Remark) ∷
    (codes "Seat 2: bo folded before Flop (didn't bet)", Ok event.Remark) ∷
    (codes "Seat 3: carl (button) showed [Jh Jc] and won ($118.50) with three of a kind, Jacks", Ok (event.SeatCards 3 (38 ∷ 36 ∷ []))) ∷
    (codes "Seat 4: dora (small blind) mucked [As Ks]", Ok (event.SeatCards 4 (51 ∷ 47 ∷ []))) ∷
    (codes "Seat 5: emil (big blind) folded before Flop", Ok event.Remark) ∷
    (codes "Seat 6: hero folded before Flop (didn't bet)", Ok event.Remark) ∷
    []

-- a tournament hand with a side pot
header_of_side_pots : Header
header_of_side_pots = record { game = game.Holdem; limit = limit.NoLimit; hundredths = false; big = 100 }

hand_of_side_pots : List Saying
hand_of_side_pots =
    (codes "Table '7 1' 9-max Seat #1 is the button", Ok (event.Button 1)) ∷
    (codes "Seat 1: a (4000 in chips)", Ok (event.Seat 1 4000 8 9)) ∷
    (codes "Seat 2: b (500 in chips)", Ok (event.Seat 2 500 8 9)) ∷
    (codes "Seat 3: c (1500 in chips)", Ok (event.Seat 3 1500 8 9)) ∷
    (codes "b: posts small blind 50", Ok (event.Post 2 kind.Small 50 false)) ∷
    (codes "c: posts big blind 100", Ok (event.Post 3 kind.Big 100 false)) ∷
    (codes "*** HOLE CARDS ***", Ok (event.Street street.First board.Only [])) ∷
    (codes "a: calls 100", Ok (event.Act 1 (act.Call 100) false [])) ∷
    (codes "b: calls 50", Ok (event.Act 2 (act.Call 50) false [])) ∷
    (codes "c: checks", Ok (event.Act 3 act.Check false [])) ∷
    (codes "*** FLOP *** [7h 8h 2c]", Ok (event.Street street.Flop board.Only (22 ∷ 26 ∷ 0 ∷ []))) ∷
    (codes "b: checks", Ok (event.Act 2 act.Check false [])) ∷
    (codes "c: checks", Ok (event.Act 3 act.Check false [])) ∷
    (codes "a: checks", Ok (event.Act 1 act.Check false [])) ∷
    (codes "*** TURN *** [7h 8h 2c] [Qs]", Ok (event.Street street.Turn board.Only (43 ∷ []))) ∷
    (codes "b: bets 400 and is all-in", Ok (event.Act 2 (act.Bet 400) true [])) ∷
    (codes "c: raises 1000 to 1400 and is all-in", Ok (event.Act 3 (act.Raise 1000 1400) true [])) ∷
    (codes "a: raises 2500 to 3900 and is all-in", Ok (event.Act 1 (act.Raise 2500 3900) true [])) ∷
    (codes "Uncalled bet (2500) returned to a", Ok (event.Uncalled 1 2500)) ∷
    (codes "*** RIVER *** [7h 8h 2c Qs] [3d]", Ok (event.Street street.River board.Only (5 ∷ []))) ∷
    (codes "*** SHOW DOWN ***", Ok (event.Street street.ShowDown board.Only [])) ∷
    (codes "a: shows [As Ad] (a pair of Aces)", Ok (event.Show 1 (51 ∷ 49 ∷ []))) ∷
    (codes "c: shows [9h Th] (high card Queen)", Ok (event.Show 3 (30 ∷ 34 ∷ []))) ∷
    (codes "a collected 2000 from side pot", Ok (event.Collect 1 2000 pot.Side)) ∷
    (codes "b: shows [Kc Kd] (a pair of Kings)", Ok (event.Show 2 (44 ∷ 45 ∷ []))) ∷
    (codes "a collected 1500 from main pot", Ok (event.Collect 1 1500 pot.Main)) ∷
    (codes "*** SUMMARY ***", Ok (event.Street street.Summary board.Only [])) ∷
    (codes "Total pot 3500 Main pot 1500. Side pot 2000. | Rake 0", Ok (event.Total 3500 0)) ∷
    (codes "Board [7h 8h 2c Qs 3d]", Ok event.Remark) ∷
    (codes "Seat 1: a (button) showed [As Ad] and won (3500) with a pair of Aces", Ok (event.SeatCards 1 (51 ∷ 49 ∷ []))) ∷
    (codes "Seat 2: b (small blind) showed [Kc Kd] and lost with a pair of Kings", Ok (event.SeatCards 2 (44 ∷ 45 ∷ []))) ∷
    (codes "Seat 3: c (big blind) showed [9h Th] and lost with high card Queen", Ok (event.SeatCards 3 (30 ∷ 34 ∷ []))) ∷
    []

-- a pot for three who play the board
header_of_three_winners : Header
header_of_three_winners = record { game = game.Holdem; limit = limit.NoLimit; hundredths = false; big = 10 }

hand_of_three_winners : List Saying
hand_of_three_winners =
    (codes "Table '7 2' 9-max Seat #4 is the button", Ok (event.Button 4)) ∷
    (codes "Seat 1: p1 (30 in chips)", Ok (event.Seat 1 30 8 10)) ∷
    (codes "Seat 2: p2 (30 in chips)", Ok (event.Seat 2 30 8 10)) ∷
    (codes "Seat 3: p3 (30 in chips)", Ok (event.Seat 3 30 8 10)) ∷
    (codes "Seat 4: p4 (100 in chips)", Ok (event.Seat 4 100 8 10)) ∷
    (codes "p1: posts small blind 5", Ok (event.Post 1 kind.Small 5 false)) ∷
    (codes "p2: posts big blind 10", Ok (event.Post 2 kind.Big 10 false)) ∷
    (codes "*** HOLE CARDS ***", Ok (event.Street street.First board.Only [])) ∷
    (codes "p3: calls 10", Ok (event.Act 3 (act.Call 10) false [])) ∷
    (codes "p4: calls 10", Ok (event.Act 4 (act.Call 10) false [])) ∷
    (codes "p1: raises 20 to 30 and is all-in", Ok (event.Act 1 (act.Raise 20 30) true [])) ∷
    (codes "p2: calls 20 and is all-in", Ok (event.Act 2 (act.Call 20) true [])) ∷
    (codes "p3: calls 20 and is all-in", Ok (event.Act 3 (act.Call 20) true [])) ∷
    (codes "p4: folds", Ok (event.Act 4 act.Fold false [])) ∷
    (codes "*** FLOP *** [Ts Js Qs]", Ok (event.Street street.Flop board.Only (35 ∷ 39 ∷ 43 ∷ []))) ∷
    (codes "*** TURN *** [Ts Js Qs] [Ks]", Ok (event.Street street.Turn board.Only (47 ∷ []))) ∷
    (codes "*** RIVER *** [Ts Js Qs Ks] [As]", Ok (event.Street street.River board.Only (51 ∷ []))) ∷
    (codes "*** SHOW DOWN ***", Ok (event.Street street.ShowDown board.Only [])) ∷
    (codes "p1: shows [2c 3c]", Ok (event.Show 1 (0 ∷ 4 ∷ []))) ∷
    (codes "p2: shows [2d 3d]", Ok (event.Show 2 (1 ∷ 5 ∷ []))) ∷
    (codes "p3: shows [2h 3h]", Ok (event.Show 3 (2 ∷ 6 ∷ []))) ∷
    (codes "p1 collected 34 from pot", Ok (event.Collect 1 34 pot.Only)) ∷
    (codes "p2 collected 33 from pot", Ok (event.Collect 2 33 pot.Only)) ∷
    (codes "p3 collected 33 from pot", Ok (event.Collect 3 33 pot.Only)) ∷
    (codes "*** SUMMARY ***", Ok (event.Street street.Summary board.Only [])) ∷
    (codes "Total pot 100 | Rake 0", Ok (event.Total 100 0)) ∷
    (codes "Board [Ts Js Qs Ks As]", Ok event.Remark) ∷
    (codes "Seat 1: p1 (small blind) showed [2c 3c] and won", Ok (event.SeatCards 1 (0 ∷ 4 ∷ []))) ∷
    (codes "Seat 2: p2 (big blind) showed [2d 3d] and won", Ok (event.SeatCards 2 (1 ∷ 5 ∷ []))) ∷
    (codes "Seat 3: p3 showed [2h 3h] and won", Ok (event.SeatCards 3 (2 ∷ 6 ∷ []))) ∷
    []

-- a hand of razz
header_of_razz : Header
header_of_razz = record { game = game.Razz; limit = limit.Fixed; hundredths = false; big = 10 }

hand_of_razz : List Saying
hand_of_razz =
    (codes "Table '9 1' 8-max", Ok event.Remark) ∷
    (codes "Seat 1: x (31 in chips)", Ok (event.Seat 1 31 8 9)) ∷
    (codes "Seat 2: y (500 in chips)", Ok (event.Seat 2 500 8 9)) ∷
    (codes "x: posts the ante 1", Ok (event.Post 1 kind.Ante 1 false)) ∷
    (codes "y: posts the ante 1", Ok (event.Post 2 kind.Ante 1 false)) ∷
    (codes "*** 3rd STREET ***", Ok (event.Street street.First board.Only [])) ∷
    (codes "Dealt to x [As 2d 3h]", Ok (event.Deal 1 (51 ∷ 1 ∷ 6 ∷ []) false)) ∷
    (codes "Dealt to y [Kc]", Ok (event.Deal 2 (44 ∷ []) false)) ∷
    (codes "y: brings in for 3", Ok (event.Post 2 kind.BringIn 3 false)) ∷
    (codes "x: raises 7 to 10", Ok (event.Act 1 (act.Raise 7 10) false [])) ∷
    (codes "y: calls 7", Ok (event.Act 2 (act.Call 7) false [])) ∷
    (codes "*** 4th STREET ***", Ok (event.Street street.Fourth board.Only [])) ∷
    (codes "Dealt to x [As 2d 3h] [4c]", Ok (event.Deal 1 (8 ∷ []) true)) ∷
    (codes "Dealt to y [Kc] [Kd]", Ok (event.Deal 2 (45 ∷ []) true)) ∷
    (codes "x: checks", Ok (event.Act 1 act.Check false [])) ∷
    (codes "y: checks", Ok (event.Act 2 act.Check false [])) ∷
    (codes "*** 5th STREET ***", Ok (event.Street street.Fifth board.Only [])) ∷
    (codes "Dealt to x [As 2d 3h 4c] [5s]", Ok (event.Deal 1 (15 ∷ []) true)) ∷
    (codes "Dealt to y [Kc Kd] [Qc]", Ok (event.Deal 2 (40 ∷ []) true)) ∷
    (codes "x: bets 20 and is all-in", Ok (event.Act 1 (act.Bet 20) true [])) ∷
    (codes "y: calls 20", Ok (event.Act 2 (act.Call 20) false [])) ∷
    (codes "*** 6th STREET ***", Ok (event.Street street.Sixth board.Only [])) ∷
    (codes "Dealt to x [As 2d 3h 4c 5s] [6d]", Ok (event.Deal 1 (17 ∷ []) true)) ∷
    (codes "Dealt to y [Kc Kd Qc] [Qd]", Ok (event.Deal 2 (41 ∷ []) true)) ∷
    (codes "*** RIVER ***", Ok (event.Street street.River board.Only [])) ∷
    (codes "Dealt to x [As 2d 3h 4c 5s 6d] [Th]", Ok (event.Deal 1 (34 ∷ []) true)) ∷
    (codes "*** SHOW DOWN ***", Ok (event.Street street.ShowDown board.Only [])) ∷
    (codes "x: shows [As 2d 3h 4c 5s 6d Th] (Lo: 5,4,3,2,A)", Ok (event.Show 1 (51 ∷ 1 ∷ 6 ∷ 8 ∷ 15 ∷ 17 ∷ 34 ∷ []))) ∷
    (codes "y: mucks hand", Ok (event.Muck 2)) ∷
    (codes "x collected 62 from pot", Ok (event.Collect 1 62 pot.Only)) ∷
    (codes "*** SUMMARY ***", Ok (event.Street street.Summary board.Only [])) ∷
    (codes "Total pot 62 | Rake 0", Ok (event.Total 62 0)) ∷
    (codes "Seat 1: x showed [As 2d 3h 4c 5s 6d Th] and won (62) with Lo: 5,4,3,2,A", Ok (event.SeatCards 1 (51 ∷ 1 ∷ 6 ∷ 8 ∷ 15 ∷ 17 ∷ 34 ∷ []))) ∷
    (codes "Seat 2: y mucked [8c 8d Kc Kd Qc Qd 9h]", Ok (event.SeatCards 2 (24 ∷ 25 ∷ 44 ∷ 45 ∷ 40 ∷ 41 ∷ 30 ∷ []))) ∷
    []

-- two players
header_of_two : Header
header_of_two = record { game = game.Holdem; limit = limit.NoLimit; hundredths = true; big = 100 }

hand_of_two : List Saying
hand_of_two =
    (codes "Table 'T' 2-max Seat #1 is the button", Ok (event.Button 1)) ∷
    (codes "Seat 1: x ($50 in chips)", Ok (event.Seat 1 5000 8 9)) ∷
    (codes "Seat 2: y ($50 in chips)", Ok (event.Seat 2 5000 8 9)) ∷
    (codes "x: posts small blind $0.50", Ok (event.Post 1 kind.Small 50 false)) ∷
    (codes "y: posts big blind $1", Ok (event.Post 2 kind.Big 100 false)) ∷
    (codes "*** HOLE CARDS ***", Ok (event.Street street.First board.Only [])) ∷
    (codes "x: calls $0.50", Ok (event.Act 1 (act.Call 50) false [])) ∷
    (codes "y: checks", Ok (event.Act 2 act.Check false [])) ∷
    (codes "*** FLOP *** [2c 7d 9h]", Ok (event.Street street.Flop board.Only (0 ∷ 21 ∷ 30 ∷ []))) ∷
    (codes "y: bets $2", Ok (event.Act 2 (act.Bet 200) false [])) ∷
    (codes "x: calls $2", Ok (event.Act 1 (act.Call 200) false [])) ∷
    (codes "*** TURN *** [2c 7d 9h] [4s]", Ok (event.Street street.Turn board.Only (11 ∷ []))) ∷
    (codes "y: checks", Ok (event.Act 2 act.Check false [])) ∷
    (codes "x: checks", Ok (event.Act 1 act.Check false [])) ∷
    (codes "*** RIVER *** [2c 7d 9h 4s] [Jc]", Ok (event.Street street.River board.Only (36 ∷ []))) ∷
    (codes "y: checks", Ok (event.Act 2 act.Check false [])) ∷
    (codes "x: checks", Ok (event.Act 1 act.Check false [])) ∷
    (codes "*** SHOW DOWN ***", Ok (event.Street street.ShowDown board.Only [])) ∷
    (codes "y: shows [Ks Kh]", Ok (event.Show 2 (47 ∷ 46 ∷ []))) ∷
    (codes "x: shows [As Ah]", Ok (event.Show 1 (51 ∷ 50 ∷ []))) ∷
    (codes "x collected $6 from pot", Ok (event.Collect 1 600 pot.Only)) ∷
    (codes "*** SUMMARY ***", Ok (event.Street street.Summary board.Only [])) ∷
    (codes "Total pot $6 | Rake $0", Ok (event.Total 600 0)) ∷
    []

-- their header lines
titles : List (List ℕ)
titles =
    codes "PokerStars Hand #240000000001: Hold'em No Limit ($0.50/$1.00 USD) - 2023/01/15 20:11:05 ET" ∷
    codes "PokerStars Hand #88: Tournament #7, $4.40+$0.60 USD Hold'em No Limit - Level V (50/100) - 2023/01/15 21:00:00 ET" ∷
    codes "PokerStars Hand #15: Tournament #7, $1+$0.10 USD Hold'em No Limit - Level I (5/10)" ∷
    codes "PokerStars Hand #90: Tournament #9, Freeroll  Razz Limit - Level I (10/20) - 2023/01/15 22:00:00 ET" ∷
    codes "PokerStars Hand #2: Hold'em No Limit ($0.50/$1.00 USD)" ∷
    []

titles_are_read : map (λ line. header_of line) titles ≡ Ok header_of_six ∷ Ok header_of_side_pots ∷ Ok header_of_three_winners ∷ Ok header_of_razz ∷ Ok header_of_two ∷ []
unfolding behind first_place cut_first last_place cut_last title is_header hand_number behind_start word_before game_of stakes_at with_stakes header_behind header_of written titles header_of_six header_of_side_pots header_of_three_winners header_of_razz header_of_two
titles_are_read = refl

-- each of the lines of a hand says what stands beside it
Say : Header → List Saying → Type 0
Say header sayings = lines_say header [] part.Preamble sayings ≡ map (λ s. s.1) sayings

hands_are_read :
    Say header_of_six hand_of_six
    × Say header_of_side_pots hand_of_side_pots
    × Say header_of_three_winners hand_of_three_winners
    × Say header_of_razz hand_of_razz
    × Say header_of_two hand_of_two
unfolding Say names_behind part_behind lines_say header_of_six hand_of_six header_of_side_pots hand_of_side_pots header_of_three_winners hand_of_three_winners header_of_razz hand_of_razz header_of_two hand_of_two behind first_place last_place cut_first cut_last money some_money follows all_in_end seat_front front_name cards_of counted_cards closed shown_cards verb_of post call bet raise perhaps_cards fold show discard_behind discard pat verb_event act_event street_event street_for marker_on marker_of marker_event marker_line act_line deal_once deal_again deal_cards deal deal_line give_back return_line pot_of collect collect_line cancel_line play_event seat_opening seat_event seat_line button_line preamble_event total_event total_line last_shown seat_cards show_line summary_event written card_of_letters
hands_are_read = (refl, refl, refl, refl, refl)
