-- Header lines and what they say, by computation.
use Rattle.std.proofs.Common.{◌≡◌, ℕ, Bool, true, false, List, [], ◌∷◌, map, refl}
use Rattle.std.specs.Prelude.{codes, Result, Ok, Err}
use Rattle.card_sets.specs.declared.games.Game.{Game}
use Rattle.card_sets.specs.declared.games.Game.TheVariants as game
use Rattle.line_text.specs.Amounts.{written}
use Rattle.hand_events.specs.declared.events.Header.{Header}
use Rattle.hand_events.specs.declared.events.Limit.{Limit}
use Rattle.hand_events.specs.declared.events.Limit.TheVariants as limit
use Rattle.hand_events.specs.declared.events.TextFault.{TextFault}
use Rattle.hand_events.specs.declared.events.TextFault.TheVariants as fault
use Rattle.history_text.specs.Texts.{behind, first_place, last_place, cut_first, cut_last}
use Rattle.history_text.specs.Headers.{title, is_header, hand_number, behind_start, word_before, game_of, stakes_at, with_stakes, header_behind, header_of}

-- a header line, and what it says
abbrev Heading : Type 0
Heading = List ℕ × Result Header TextFault

-- a hand for money, whose units are hundredths, and one for chips
money : Game → Limit → ℕ → Result Header TextFault
money game limit big = Ok (record { game = game; limit = limit; hundredths = true; big = big })

chips : Game → Limit → ℕ → Result Header TextFault
chips game limit big = Ok (record { game = game; limit = limit; hundredths = false; big = big })

headings : List Heading
headings =
    (codes "PokerStars Hand #240000000001: Hold'em No Limit ($0.50/$1.00 USD) - 2023/01/15 20:11:05 ET", money game.Holdem limit.NoLimit 100) ∷
    (codes "PokerStars Hand #88: Tournament #7, $4.40+$0.60 USD Hold'em No Limit - Level V (50/100) - 2023/01/15 21:00:00 ET", chips game.Holdem limit.NoLimit 100) ∷
    (codes "PokerStars Hand #90: Tournament #9, Freeroll  Razz Limit - Level I (10/20) - 2023/01/15 22:00:00 ET", chips game.Razz limit.Fixed 10) ∷
    (codes "PokerStars Zoom Hand #5: Omaha Hi/Lo Pot Limit ($0.01/$0.02)", money game.Omaha8 limit.PotLimit 2) ∷
    (codes "PokerStars Zoom Hand #5: 8-Game (Hold'em Pot Limit, 20/40)", chips game.Holdem limit.PotLimit 40) ∷
    (codes "PokerStars Game #5: 7 Card Stud Limit ($0.10/$0.20)", money game.Stud limit.Fixed 10) ∷
    (codes "PokerStars Hand #9999999999999999999: Single Draw 2-7 Lowball No Limit (50/100)", chips game.Lowball27 limit.NoLimit 100) ∷
    (codes "PokerStars Hand #5: Omaha Pot Limit (50/100)", chips game.Omaha limit.PotLimit 100) ∷
    (codes "PokerStars Hand #5: 7 Card Stud Hi/Lo Limit ($2/$4)", money game.Stud8 limit.Fixed 200) ∷
    (codes "PokerStars Hand #5: 5 Card Draw No Limit (50/100)", chips game.Draw5 limit.NoLimit 100) ∷
    (codes "PokerStars Hand #5: Triple Draw 2-7 Lowball Limit (10/20)", chips game.Triple27 limit.Fixed 10) ∷
    (codes "PokerStars Hand #10000000000000000000: Hold'em No Limit (50/100)", Err fault.BadHeader) ∷
    (codes "PokerStars Home Game Hand #5: Hold'em No Limit (50/100)", Err fault.BadHeader) ∷
    (codes "PokerStars Hand #5 Hold'em No Limit (50/100)", Err fault.BadHeader) ∷
    (codes "PokerStars Hand #5: 6+ Hold'em No Limit (50/100)", Err fault.UnknownGame) ∷
    (codes "PokerStars Hand #5: Fusion Hold'em No Limit (50/100)", Err fault.UnknownGame) ∷
    (codes "PokerStars Hand #5: 5 Card Omaha Pot Limit (50/100)", Err fault.UnknownGame) ∷
    (codes "PokerStars Hand #5: Badugi Limit (50/100)", Err fault.UnknownGame) ∷
    (codes "PokerStars Hand #5: Hold'em (50/100)", Err fault.UnknownGame) ∷
    (codes "PokerStars Hand #5: Hold'em No Limit 50/100", Err fault.BadHeader) ∷
    (codes "PokerStars Hand #5: Hold'em No Limit (0/100)", Err fault.BadHeader) ∷
    (codes "PokerStars Game #5: Hold'em No Limit (50/1000000000000000)", Err fault.AmountTooLarge) ∷
    []

headings_are_read : map (λ h. header_of h.0) headings ≡ map (λ h. h.1) headings
unfolding behind first_place cut_first last_place cut_last title is_header hand_number behind_start word_before game_of stakes_at with_stakes header_behind header_of written money chips headings
headings_are_read = refl

-- whether a line is a header line
fronts : List (List ℕ × Bool)
fronts =
    (codes "PokerStars Hand #5", true) ∷
    (codes "PokerStars Home Game Hand #5 x", true) ∷
    (codes "PokerStars Game #5: x", true) ∷
    (codes "PokerStars Hand #x", false) ∷
    (codes "PokerStars Hands #5", false) ∷
    (codes "PokerStars 2 Hand #5", false) ∷
    (codes " PokerStars Hand #5", false) ∷
    []

fronts_are_told : map (λ f. is_header f.0) fronts ≡ map (λ f. f.1) fronts
unfolding behind first_place cut_first title is_header fronts
fronts_are_told = refl

number_is_found : ◌≡◌ {A = ℕ × ℕ} (hand_number (codes "PokerStars Hand #88: x")) (17, 19)
unfolding behind first_place cut_first title hand_number
number_is_found = refl
