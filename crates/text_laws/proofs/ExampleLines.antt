-- Lines and what they say, by computation. A card is four times its rank, 0 for a deuce, and its suit: clubs 0, diamonds 1, hearts 2,
-- spades 3.
use Rattle.std.proofs.Common.{◌≡◌, ℕ, true, false, List, [], ◌∷◌, map, refl}
use Rattle.std.specs.Prelude.{codes, Result, Ok, Err}
use Rattle.card_sets.specs.CardText.{card_of_letters}
use Rattle.card_sets.specs.declared.games.Game.TheVariants as game
use Rattle.line_text.specs.Amounts.{written}
use Rattle.hand_events.specs.declared.events.Header.{Header}
use Rattle.hand_events.specs.declared.events.Limit.TheVariants as limit
use Rattle.hand_events.specs.declared.events.Part.{Part}
use Rattle.hand_events.specs.declared.events.Part.TheVariants as part
use Rattle.hand_events.specs.declared.events.Event.{Event}
use Rattle.hand_events.specs.declared.events.Event.TheVariants as event
use Rattle.hand_events.specs.declared.events.Act.TheVariants as act
use Rattle.hand_events.specs.declared.events.BoardNumber.TheVariants as board
use Rattle.hand_events.specs.declared.events.PostKind.TheVariants as kind
use Rattle.hand_events.specs.declared.events.PotName.TheVariants as pot
use Rattle.card_sets.specs.declared.streets.Street.TheVariants as street
use Rattle.hand_events.specs.declared.events.TextFault.{TextFault}
use Rattle.hand_events.specs.declared.events.TextFault.TheVariants as fault
use Rattle.history_text.specs.Texts.{behind, first_place, last_place, cut_first, cut_last}
use Rattle.history_text.specs.Reading.{money, some_money, follows, all_in_end, seat_front}
use Rattle.history_text.specs.Names.{front_name}
use Rattle.history_text.specs.Brackets.{cards_of, counted_cards, closed, shown_cards}
use Rattle.history_text.specs.Acts.{verb_of, post, call, bet, raise, perhaps_cards, fold, show, discard_behind, discard, pat, verb_event, act_event}
use Rattle.history_text.specs.Markers.{street_event, street_for, marker_on, marker_of, marker_event, marker_line}
use Rattle.history_text.specs.Plays.{act_line, deal_once, deal_again, deal_cards, deal, deal_line, give_back, return_line, pot_of, collect, collect_line, cancel_line, play_event}
use Rattle.history_text.specs.Seats.{seat_opening, seat_event, seat_line, button_line, preamble_event}
use Rattle.history_text.specs.Totals.{total_event, total_line, last_shown, seat_cards, show_line, summary_event}
use Rattle.history_text.specs.Lines.{line_event}

-- a line, and what it says
abbrev Saying : Type 0
Saying = List ℕ × Result Event TextFault

-- hands of hold'em for money and for chips, of Omaha Hi/Lo, of razz, of triple draw and of single draw
cash : Header
cash = record { game = game.Holdem; limit = limit.NoLimit; hundredths = true; big = 100 }

chips : Header
chips = record { game = game.Holdem; limit = limit.NoLimit; hundredths = false; big = 100 }

omaha : Header
omaha = record { game = game.Omaha8; limit = limit.PotLimit; hundredths = false; big = 100 }

razz : Header
razz = record { game = game.Razz; limit = limit.Fixed; hundredths = false; big = 10 }

triple : Header
triple = record { game = game.Triple27; limit = limit.Fixed; hundredths = false; big = 10 }

draw : Header
draw = record { game = game.Lowball27; limit = limit.NoLimit; hundredths = false; big = 20 }

names : List (ℕ × List ℕ)
names = (3, codes "carl") ∷ (4, codes "dora") ∷ (6, codes "hero") ∷ (1, codes "A") ∷ (2, codes "A: folds") ∷ []

-- each of the lines says what stands beside it
Say : Header → Part → List Saying → Type 0
Say header here sayings = map (λ s. line_event names header here s.0) sayings ≡ map (λ s. s.1) sayings

-- posts before the first street
posts : List Saying
posts =
    (codes "dora: posts small blind $0.50", Ok (event.Post 4 kind.Small 50 false)) ∷
    (codes "hero: posts big blind $1", Ok (event.Post 6 kind.Big 100 false)) ∷
    (codes "carl: posts small & big blinds $1.50", Ok (event.Post 3 kind.Both 150 false)) ∷
    (codes "hero: posts the ante $0.05", Ok (event.Post 6 kind.Ante 5 false)) ∷
    (codes "hero: posts big blind $0.40 and is all-in", Ok (event.Post 6 kind.Big 40 true)) ∷
    (codes "hero: posts big blind $0", Err fault.BadAmount) ∷
    (codes "hero: posts big blind", Err fault.BadAction) ∷
    (codes "hero: brings in for $1", Err fault.BadAction) ∷
    []

-- acts, in chips, and a blind that is posted later
acts : List Saying
acts =
    (codes "dora: posts small blind 50", Ok (event.Post 4 kind.Small 50 false)) ∷
    (codes "carl: checks", Ok (event.Act 3 act.Check false [])) ∷
    (codes "carl: calls 100", Ok (event.Act 3 (act.Call 100) false [])) ∷
    (codes "carl: bets 400 and is all-in", Ok (event.Act 3 (act.Bet 400) true [])) ∷
    (codes "carl: raises 1000 to 1400 and is all-in", Ok (event.Act 3 (act.Raise 1000 1400) true [])) ∷
    (codes "carl: calls 0", Err fault.BadAmount) ∷
    (codes "carl: bets 1.50", Err fault.BadAmount) ∷
    (codes "carl: raises 100", Err fault.BadAmount) ∷
    (codes "carl: bets 50 and is all-in!", Err fault.BadAmount) ∷
    (codes "carl: calls 1000000000000000 x", Err fault.AmountTooLarge) ∷
    (codes "carl: straddles 5", Err fault.BadAction) ∷
    (codes "carl: checks it", Err fault.BadAction) ∷
    (codes "hero: folds", Ok (event.Act 6 act.Fold false [])) ∷
    (codes "hero: folds [Qc 7d]", Ok (event.Act 6 act.Fold false (40 ∷ 21 ∷ []))) ∷
    (codes "hero: folds [Qc 7d] now", Err fault.BadAction) ∷
    []

-- what else a player's line says, and the name that counts
others : List Saying
others =
    (codes "carl: shows [Jh Jc] (three of a kind, Jacks)", Ok (event.Show 3 (38 ∷ 36 ∷ []))) ∷
    (codes "carl: shows [Jh Jx]", Err fault.BadCards) ∷
    (codes "carl: shows []", Err fault.BadCards) ∷
    (codes "dora: mucks hand", Ok (event.Muck 4)) ∷
    (codes "dora: doesn't show hand", Ok (event.Muck 4)) ∷
    (codes "dora: sits out", Ok event.Remark) ∷
    (codes "dora: is sitting out", Ok event.Remark) ∷
    (codes "A: folds: checks", Ok (event.Act 2 act.Check false [])) ∷
    (codes "A: folds", Ok (event.Act 1 act.Fold false [])) ∷
    (codes "emil: folds", Ok event.Remark) ∷
    (codes "carl said, \"gl\"", Ok event.Remark) ∷
    (codes "Hand cancelled", Err fault.Cancelled) ∷
    (codes "Hand canceled", Err fault.Cancelled) ∷
    (codes "Hand cancelled by the site", Ok event.Remark) ∷
    []

-- deals and markers of hold'em
deals : List Saying
deals =
    (codes "Dealt to hero [Qc 7d]", Ok (event.Deal 6 (40 ∷ 21 ∷ []) false)) ∷
    (codes "Dealt to hero [Qc 7d 2c]", Err fault.BadCards) ∷
    (codes "Dealt to hero [Qc 7d", Err fault.BadCards) ∷
    (codes "Dealt to hero [Qc 7d] and so on", Ok event.Remark) ∷
    (codes "Dealt to hero", Ok event.Remark) ∷
    (codes "Dealt to emil [Qc 7d]", Err fault.BadAction) ∷
    (codes "*** FLOP *** [2s 9s Jd]", Ok (event.Street street.Flop board.Only (3 ∷ 31 ∷ 37 ∷ []))) ∷
    (codes "*** TURN *** [2s 9s Jd] [5h]", Ok (event.Street street.Turn board.Only (14 ∷ []))) ∷
    (codes "*** RIVER *** [2s 9s Jd 5h] [3c]", Ok (event.Street street.River board.Only (4 ∷ []))) ∷
    (codes "*** FLOP ***", Err fault.BadCards) ∷
    (codes "*** SHOW DOWN ***", Ok (event.Street street.ShowDown board.Only [])) ∷
    (codes "*** 4th STREET ***", Err fault.BadMarker) ∷
    []

-- markers of a hand that is run twice
markers_of_two : List Saying
markers_of_two =
    (codes "*** FIRST FLOP *** [2s 9s Jd]", Ok (event.Street street.Flop board.First (3 ∷ 31 ∷ 37 ∷ []))) ∷
    (codes "*** SECOND FLOP *** [7h 8h 2c]", Ok (event.Street street.Flop board.Second (22 ∷ 26 ∷ 0 ∷ []))) ∷
    (codes "*** FIRST TURN *** [2s 9s Jd] [5h]", Ok (event.Street street.Turn board.First (14 ∷ []))) ∷
    (codes "*** SECOND RIVER *** [7h 8h 2c Qs] [6s]", Ok (event.Street street.River board.Second (19 ∷ []))) ∷
    (codes "*** FIRST SHOW DOWN ***", Ok (event.Street street.ShowDown board.First [])) ∷
    (codes "*** SECOND SHOW DOWN ***", Ok (event.Street street.ShowDown board.Second [])) ∷
    (codes "*** FIRST FLOP ***", Err fault.BadCards) ∷
    (codes "*** SECOND TURN *** [2s 9s Jd] [5h 3c]", Err fault.BadCards) ∷
    (codes "*** FIRST HOLE CARDS ***", Err fault.BadMarker) ∷
    (codes "*** SECOND SUMMARY ***", Err fault.BadMarker) ∷
    (codes "*** FIRST", Err fault.BadMarker) ∷
    (codes "*** THIRD RIVER *** [7h 8h 2c Qs] [6s]", Err fault.BadMarker) ∷
    []

-- deals of Omaha
deals_of_omaha : List Saying
deals_of_omaha =
    (codes "Dealt to hero [Qc 7d 2c 3c]", Ok (event.Deal 6 (40 ∷ 21 ∷ 0 ∷ 4 ∷ []) false)) ∷
    (codes "Dealt to hero [Qc 7d]", Err fault.BadCards) ∷
    []

-- deals, markers and the bring-in of razz
deals_of_razz : List Saying
deals_of_razz =
    (codes "Dealt to hero [As 2d 3h]", Ok (event.Deal 6 (51 ∷ 1 ∷ 6 ∷ []) false)) ∷
    (codes "Dealt to carl [3h]", Ok (event.Deal 3 (6 ∷ []) false)) ∷
    (codes "Dealt to hero [As 2d 3h] [4c]", Ok (event.Deal 6 (8 ∷ []) true)) ∷
    (codes "Dealt to hero [As 2d]", Err fault.BadCards) ∷
    (codes "carl: brings in for 3", Ok (event.Post 3 kind.BringIn 3 false)) ∷
    (codes "*** 3rd STREET ***", Ok (event.Street street.First board.Only [])) ∷
    (codes "*** 6th STREET ***", Ok (event.Street street.Sixth board.Only [])) ∷
    (codes "*** RIVER ***", Ok (event.Street street.River board.Only [])) ∷
    (codes "*** FLOP *** [2s 9s Jd]", Err fault.BadMarker) ∷
    (codes "*** FIRST RIVER ***", Err fault.BadMarker) ∷
    (codes "*** SECOND SHOW DOWN ***", Err fault.BadMarker) ∷
    []

-- deals, discards and stand-pats of single draw
draws : List Saying
draws =
    (codes "*** DEALING HANDS ***", Ok (event.Street street.First board.Only [])) ∷
    (codes "*** DRAW ***", Ok (event.Street street.Draw board.Only [])) ∷
    (codes "Dealt to hero [7c 5d 4h 3s 2c]", Ok (event.Deal 6 (20 ∷ 13 ∷ 10 ∷ 7 ∷ 0 ∷ []) false)) ∷
    (codes "Dealt to hero [7c 5d 4h] [3s 2c]", Ok (event.Deal 6 (7 ∷ 0 ∷ []) true)) ∷
    (codes "hero: discards 2 cards [Qc 7d]", Ok (event.Discard 6 2 (40 ∷ 21 ∷ []))) ∷
    (codes "hero: discards 1 card", Ok (event.Discard 6 1 [])) ∷
    (codes "hero: discards 2 cards [Qc]", Err fault.BadCards) ∷
    (codes "hero: discards 6 cards", Err fault.BadAction) ∷
    (codes "hero: stands pat on [7c 5d 4h 3s 2c]", Ok (event.Pat 6)) ∷
    (codes "hero: stands pat", Ok (event.Pat 6)) ∷
    (codes "hero: stands pat again", Err fault.BadAction) ∷
    []

-- markers, deals and discards of triple draw
triple_draws : List Saying
triple_draws =
    (codes "*** DEALING HANDS ***", Ok (event.Street street.First board.Only [])) ∷
    (codes "*** FIRST DRAW ***", Ok (event.Street street.FirstDraw board.Only [])) ∷
    (codes "*** SECOND DRAW ***", Ok (event.Street street.SecondDraw board.Only [])) ∷
    (codes "*** THIRD DRAW ***", Ok (event.Street street.ThirdDraw board.Only [])) ∷
    (codes "*** SHOW DOWN ***", Ok (event.Street street.ShowDown board.Only [])) ∷
    (codes "*** DRAW ***", Err fault.BadMarker) ∷
    (codes "*** FIRST SHOW DOWN ***", Err fault.BadMarker) ∷
    (codes "Dealt to hero [7c 5d 4h 3s 2c]", Ok (event.Deal 6 (20 ∷ 13 ∷ 10 ∷ 7 ∷ 0 ∷ []) false)) ∷
    (codes "Dealt to hero [7c 5d 4h] [3s 2c]", Ok (event.Deal 6 (7 ∷ 0 ∷ []) true)) ∷
    (codes "hero: discards 2 cards [Qc 7d]", Ok (event.Discard 6 2 (40 ∷ 21 ∷ []))) ∷
    (codes "hero: stands pat", Ok (event.Pat 6)) ∷
    []

-- discards in a game with no draw
discards_elsewhere : List Saying
discards_elsewhere =
    (codes "hero: discards 2 cards", Err fault.BadAction) ∷
    (codes "hero: stands pat", Err fault.BadAction) ∷
    []

-- what comes back, and what is collected
payments : List Saying
payments =
    (codes "Uncalled bet (2500) returned to carl", Ok (event.Uncalled 3 2500)) ∷
    (codes "Uncalled bet (2500) returned to emil", Err fault.BadAction) ∷
    (codes "carl collected 2000 from pot", Ok (event.Collect 3 2000 pot.Only)) ∷
    (codes "carl collected 2000 from main pot", Ok (event.Collect 3 2000 pot.Main)) ∷
    (codes "carl collected 2000 from side pot", Ok (event.Collect 3 2000 pot.Side)) ∷
    (codes "carl collected 2000 from side pot-1", Ok (event.Collect 3 2000 (pot.SideNumber 1))) ∷
    (codes "carl collected 2000 from side pot-9", Ok (event.Collect 3 2000 (pot.SideNumber 9))) ∷
    (codes "carl collected 2000 from side pot-0", Err fault.BadAction) ∷
    (codes "carl collected 2000 from side pot-10", Err fault.BadAction) ∷
    (codes "carl collected 2000 from the pot", Err fault.BadAction) ∷
    (codes "carl collected 0 from pot", Err fault.BadAmount) ∷
    (codes "emil collected 2000 from pot", Ok event.Remark) ∷
    []

-- seats of a hand for money, and the button
seats : List Saying
seats =
    (codes "Seat 5: emil ($120.25 in chips)", Ok (event.Seat 5 12025 8 12)) ∷
    (codes "Seat 5: emil ($0 in chips) is sitting out", Ok (event.Seat 5 0 8 12)) ∷
    (codes "Seat 5: emil ($. in chips)", Err fault.BadAmount) ∷
    (codes "Seat 5: emil ($5 in chips", Ok (event.Seat 5 500 8 12)) ∷
    (codes "Seat 5: emil ($10000000000000 in chips)", Err fault.AmountTooLarge) ∷
    (codes "Seat 5:  ($5 in chips)", Err fault.BadHeader) ∷
    (codes "Table 'Halley IV' 6-max Seat #3 is the button", Ok (event.Button 3)) ∷
    (codes "Table 'Halley IV' 6-max Seat #11 is the button", Ok event.Remark) ∷
    (codes "Table 'Halley IV' 6-max", Ok event.Remark) ∷
    []

-- seats of a hand for chips
seats_in_chips : List Saying
seats_in_chips =
    (codes "Seat 05: x (y) (5 in chips, 3 in chips) is sitting out", Ok (event.Seat 5 5 9 14)) ∷
    (codes "Seat 11: x (5 in chips)", Err fault.BadHeader) ∷
    (codes "Seat 0: x (5 in chips)", Err fault.BadHeader) ∷
    (codes "Seat 5: carl (5 in chips)", Err fault.BadHeader) ∷
    (codes "Seat 3: carl (5 in chips)", Ok (event.Seat 3 5 8 12)) ∷
    (codes "Seat 5: emil", Ok event.Remark) ∷
    []

-- totals of a hand for money
totals : List Saying
totals =
    (codes "Total pot $121 | Rake $2.50", Ok (event.Total 12100 250)) ∷
    (codes "Total pot $121", Err fault.BadAmount) ∷
    (codes "carl: folds", Ok event.Remark) ∷
    []

-- a summary in chips
summary : List Saying
summary =
    (codes "Total pot 3500 Main pot 1500. Side pot 2000. | Rake 0", Ok (event.Total 3500 0)) ∷
    (codes "Seat 4: dora (small blind) mucked [As Ks]", Ok (event.SeatCards 4 (51 ∷ 47 ∷ []))) ∷
    (codes "Seat 3: carl (button) showed [Jh Jc] and won (118) with three of a kind, Jacks", Ok (event.SeatCards 3 (38 ∷ 36 ∷ []))) ∷
    (codes "Seat 3: carl showed [2c] showed [Jh Jc] and lost", Ok (event.SeatCards 3 (38 ∷ 36 ∷ []))) ∷
    (codes "Seat 5: emil showed [Jh Jc]", Ok event.Remark) ∷
    (codes "Seat 3: carl showed [Jh", Err fault.BadCards) ∷
    (codes "Board [2s 9s Jd 5h 3c]", Ok event.Remark) ∷
    []

lines_are_read :
    Say cash part.Preamble posts
    × Say chips part.Play acts
    × Say chips part.Play others
    × Say cash part.Play deals
    × Say cash part.Play markers_of_two
    × Say omaha part.Play markers_of_two
    × Say omaha part.Play deals_of_omaha
    × Say razz part.Play deals_of_razz
    × Say draw part.Play draws
    × Say triple part.Play triple_draws
    × Say cash part.Play discards_elsewhere
    × Say chips part.Play payments
    × Say cash part.Preamble seats
    × Say chips part.Preamble seats_in_chips
    × Say cash part.Summary totals
    × Say chips part.Summary summary
unfolding Say posts acts others deals markers_of_two deals_of_omaha deals_of_razz draws triple_draws discards_elsewhere payments seats seats_in_chips totals summary behind first_place last_place cut_first cut_last money some_money follows all_in_end seat_front front_name cards_of counted_cards closed shown_cards verb_of post call bet raise perhaps_cards fold show discard_behind discard pat verb_event act_event street_event street_for marker_on marker_of marker_event marker_line act_line deal_once deal_again deal_cards deal deal_line give_back return_line pot_of collect collect_line cancel_line play_event seat_opening seat_event seat_line button_line preamble_event total_event total_line last_shown seat_cards show_line summary_event written card_of_letters cash chips razz draw triple names omaha
lines_are_read = (refl, refl, refl, refl, refl, refl, refl, refl, refl, refl, refl, refl, refl, refl, refl, refl)
