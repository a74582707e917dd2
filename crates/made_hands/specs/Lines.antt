-- The text of a made hand of Texas Hold'em: A and B see the flop for a dollar each, B bets their whole stack, and A
-- calls.
use Rattle.std.specs.Prelude.{ℕ, ◌-◌, ◌*◌, min, nat_le, nat_lt, if◌then◌else◌, List, [], ◌++◌, take, drop, codes, decimal}
use Rattle.std.specs.List.{join_by}
use Rattle.std.specs.Cmp.Lexicographic.{slice_cmp}
use Rattle.std.specs.Ordering.{nat_cmp}
use Rattle.std.specs.declared.cmp.Ordering.{Ordering}
use Rattle.std.specs.declared.cmp.Ordering.TheVariants.{Less, Equal, Greater}
use Rattle.card_sets.specs.Cards.{union}
use Rattle.card_sets.specs.CardText.{text_of_card}
use Rattle.rank_high.specs.High.{best_high}
use Rattle.made_hands.specs.declared.deals.Deal.{Deal}

-- cards in brackets, with one blank between
unfoldable pub cards_text : List ℕ → List ℕ
cards_text cards = codes "[" ++ join_by text_of_card (codes " ") cards ++ codes "]"

-- the chips that each player puts in: the lesser stack
abbrev pub staked : Deal → ℕ
staked d = min d.first_stack d.second_stack

-- the header line and the table line
unfoldable pub title_lines : ℕ → List ℕ
title_lines number =
    codes "PokerStars Hand #" ++ decimal number
    ++ codes ": Hold'em No Limit ($0.50/$1.00 USD)\nTable 'Made' 2-max Seat #1 is the button\n"

-- the seats with their stacks
unfoldable pub seat_lines : Deal → List ℕ
seat_lines d =
    codes "Seat 1: A ($" ++ decimal d.first_stack ++ codes " in chips)\nSeat 2: B ($"
    ++ decimal d.second_stack
    ++ codes " in chips)\n"

-- the blinds, and the acts before the flop
unfoldable pub blind_lines : List ℕ
blind_lines =
    codes "A: posts small blind $0.50\nB: posts big blind $1\n*** HOLE CARDS ***\nA: calls $0.50\nB: checks\n"

-- the flop, and B's bet of all remaining chips
unfoldable pub flop_lines : Deal → List ℕ
flop_lines d =
    codes "*** FLOP *** " ++ cards_text (take 3 d.board) ++ codes "\nB: bets $"
    ++ decimal (d.second_stack - 1)
    ++ codes " and is all-in\n"

-- A's call, which puts A all-in if A has no more than B
unfoldable pub call_line : Deal → List ℕ
call_line d =
    codes "A: calls $" ++ decimal (staked d - 1)
    ++ (if nat_le d.first_stack d.second_stack then codes " and is all-in\n" else codes "\n")

-- the chips that B gets back if B has more than A
unfoldable pub return_line : Deal → List ℕ
return_line d =
    if nat_lt d.first_stack d.second_stack
    then codes "Uncalled bet ($" ++ decimal (d.second_stack - d.first_stack)
    ++ codes ") returned to B\n"
    else []

-- the turn and the river
unfoldable pub board_lines : Deal → List ℕ
board_lines d =
    codes "*** TURN *** " ++ cards_text (take 3 d.board) ++ codes " "
    ++ cards_text (take 1 (drop 3 d.board))
    ++ codes "\n*** RIVER *** " ++ cards_text (take 4 d.board) ++ codes " "
    ++ cards_text (take 1 (drop 4 d.board)) ++ codes "\n"

-- the showdown: B made the last bet and shows first
unfoldable pub shown_lines : Deal → List ℕ
shown_lines d =
    codes "*** SHOW DOWN ***\nB: shows " ++ cards_text d.second ++ codes "\nA: shows "
    ++ cards_text d.first ++ codes "\n"

-- the order of the best five of A's seven cards and the best five of B's
unfoldable pub compared : Deal → Ordering
compared d =
    slice_cmp nat_cmp (best_high (union d.first d.board)) (best_high (union d.second d.board))

-- the line in which a player collects some dollars
unfoldable pub collected_line : List ℕ → ℕ → List ℕ
collected_line name units = name ++ codes " collected $" ++ decimal units ++ codes " from pot\n"

-- the collections, by the order of the two hands
unfoldable pub collected_lines : Ordering → ℕ → List ℕ
collected_lines Greater stake = collected_line (codes "A") (2 * stake)
collected_lines Less stake = collected_line (codes "B") (2 * stake)
collected_lines Equal stake = collected_line (codes "A") stake ++ collected_line (codes "B") stake

-- the summary
unfoldable pub summary_lines : ℕ → List ℕ
summary_lines stake =
    codes "*** SUMMARY ***\nTotal pot $" ++ decimal (2 * stake) ++ codes " | Rake $0\n"

-- a hand up to the bet on the flop and its call
unfoldable pub betting_text : ℕ → Deal → List ℕ
betting_text number d = title_lines number ++ seat_lines d ++ blind_lines ++ flop_lines d
    ++ call_line d ++ return_line d

-- the rest of the hand, from the turn on
unfoldable pub ending_text : Deal → List ℕ
ending_text d = board_lines d ++ shown_lines d ++ collected_lines (compared d) (staked d)
    ++ summary_lines (staked d)

-- a hand with its number
unfoldable pub hand_text : ℕ → Deal → List ℕ
hand_text number d = betting_text number d ++ ending_text d
