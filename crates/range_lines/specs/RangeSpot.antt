-- What a line with ranges says.
use Rattle.std.specs.Prelude.{ℕ, Bool, ◌==◌, ◌+◌, ◌-◌, ◌*◌, ◌&&◌, ◌≡◌, if◌then◌else◌, true, nat_lt, List, [], ◌∷◌, ◌++◌, length, map, Option, Some, None, Result, Ok, Err}
use Rattle.std.specs.List.{list_all, flat_map}
use Rattle.std.specs.Str.{bytes_eq}
use Rattle.card_sets.specs.Games.{game_word, board_size, own_size}
use Rattle.card_sets.specs.declared.games.Game.TheVariants.{Holdem}
use Rattle.spot_text.specs.Words.{words}
use Rattle.spot_text.specs.Parts.{hand_words, board_words, dead_words, all_cards, cards_of, set_of}
use Rattle.spot_text.specs.Games.{board_fits}
use Rattle.spot_text.specs.Spot.{players_within, repeated_after}
use Rattle.range_lines.specs.declared.faults.RangeFault.{RangeFault}
use Rattle.range_lines.specs.declared.faults.RangeFault.TheVariants.{UnknownWord, BadCard, BadRange, TwiceCard, BoardSize, PlayerCount, DeckShort, Memory}
use Rattle.range_lines.specs.declared.spot.Weighted.{Weighted}
use Rattle.range_lines.specs.declared.spot.RangeSpot.{RangeSpot}
use Rattle.range_lines.specs.Hands.{is_range, hands_of}

-- a board, dead cards and ranges
pub record Ranges : Type 0 where
  pub board : List ℕ
  pub dead : List ℕ
  pub ranges : List (List Weighted)

-- those of a spot
abbrev pub ranges_in : RangeSpot → Ranges
ranges_in spot = record { board = spot.board; dead = spot.dead; ranges = spot.ranges.items }

-- whether the ranges are one word each, and the board and the dead cards are cards
abbrev pub is_one_word : List (List ℕ) → Bool
is_one_word hand = length hand == 1

-- the words from the first mark after the ranges on, which are one word each
pub record IsBehindRanges (words others : List (List ℕ)) : Type 0 where
  pub one : list_all is_one_word (hand_words words) ≡ true
  pub hands : hand_words others ≡ [] ∷ []
  pub board : board_words others ≡ board_words words
  pub dead : dead_words others ≡ dead_words words

abbrev pub is_form : List (List ℕ) → Bool
is_form others = list_all is_one_word (hand_words others)
    && (all_cards (board_words others) && all_cards (dead_words others))

-- the words of the ranges
abbrev pub range_words : List (List ℕ) → List (List ℕ)
range_words others = flat_map (λ hand. hand) (hand_words others)

-- the cards of the table, from the left
abbrev pub table_cards : List (List ℕ) → List ℕ
table_cards others = cards_of (board_words others) ++ cards_of (dead_words others)

-- there are two players to four
abbrev pub are_few : ℕ → Bool
are_few count = players_within 4 count

-- whether fewer cards are left than the board lacks, once each of some players has a hand
abbrev pub is_dealt_out : ℕ → ℕ → ℕ → Bool
is_dealt_out board dead count =
    nat_lt 52 (board + dead + own_size Holdem * count + (board_size Holdem - board))

-- what is known of a line's cards
abbrev pub ranges_of_words : List (List ℕ) → Ranges
ranges_of_words others =
    let board = set_of (cards_of (board_words others)) in
    let dead = set_of (cards_of (dead_words others)) in
    record { board = board; dead = dead; ranges = map (hands_of board dead) (range_words others) }

abbrev pub unless_dealt_out : Ranges → Result Ranges RangeFault
unless_dealt_out spot =
    if is_dealt_out (length spot.board) (length spot.dead) (length spot.ranges)
    then Err DeckShort else Ok spot

-- the numbers are tested in this order
abbrev pub ranges_of_sizes : List (List ℕ) → Result Ranges RangeFault
ranges_of_sizes others =
    if board_fits Holdem (length (board_words others)) then
    (if are_few (length (hand_words others)) then unless_dealt_out (ranges_of_words others)
    else Err PlayerCount)
    else Err BoardSize

-- the first card of the table that stands twice, or else what the numbers say
abbrev pub unless_repeated : Option ℕ → List (List ℕ) → Result Ranges RangeFault
unless_repeated None others = ranges_of_sizes others
unless_repeated (Some card) others = Err (TwiceCard card)

-- what the words after the game's say
abbrev pub ranges_behind : List (List ℕ) → Result Ranges RangeFault
ranges_behind others =
    if is_form others then
    (if list_all is_range (range_words others)
    then unless_repeated (repeated_after [] (table_cards others)) others else Err BadRange)
    else Err BadCard

-- the first word is the game's
abbrev pub ranges_of_line_words : List (List ℕ) → Result Ranges RangeFault
ranges_of_line_words [] = Err UnknownWord
ranges_of_line_words (word ∷ others) =
    if bytes_eq word (game_word Holdem) then ranges_behind others else Err UnknownWord

-- what a line with ranges says: what is known and the ranges, or the first fault
abbrev pub ranges_of : List ℕ → Result Ranges RangeFault
ranges_of line = ranges_of_line_words (words line)

-- a fault is the line's, unless memory ran out, which says nothing of it
abbrev pub IsFaultOf : List ℕ → RangeFault → Type 0
IsFaultOf line Memory = Unit {0}
IsFaultOf line fault = ranges_of line ≡ Err fault
