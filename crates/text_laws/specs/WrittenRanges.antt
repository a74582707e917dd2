-- A written line with ranges, and what the law of its reading says.
use Rattle.std.specs.Prelude.{◌≡◌, ℕ, ◌+◌, ◌*◌, ◌<◌, ◌≤◌, ◌⊎◌, List, [], ◌∷◌, ◌++◌, map, length, codes, IsTrue, Ok, Err}
use Rattle.std.specs.List.{list_all, join_with_byte}
use Rattle.card_sets.specs.Games.{game_word}
use Rattle.card_sets.specs.declared.games.Game.TheVariants.{Holdem}
use Rattle.spot_text.specs.Parts.{set_of}
use Rattle.spot_text.specs.Spot.{all_differ, all_in_deck}
use Rattle.range_lines.specs.declared.faults.RangeFault.TheVariants.{BoardSize, PlayerCount, DeckShort}
use Rattle.range_lines.specs.Hands.{is_range, hands_of}
use Rattle.range_lines.specs.RangeSpot.{Ranges, ranges_of}
use Rattle.text_laws.specs.WrittenSpots.{is_word, texts}

-- written ranges, with a dash between them
abbrev pub ranges_text : List (List ℕ) → List (List ℕ)
ranges_text [] = []
ranges_text (range ∷ []) = range ∷ []
ranges_text (range ∷ next ∷ ranges) = range ∷ codes "-" ∷ ranges_text (next ∷ ranges)

-- the line of ranges, a board, and dead cards
abbrev pub ranges_line : List (List ℕ) → List ℕ → List ℕ → List ℕ
ranges_line ranges board dead =
    join_with_byte 32 (game_word Holdem
    ∷ (ranges_text ranges ++ codes "--" ∷ (texts board ++ codes "/" ∷ texts dead)))

-- the meaning of the line: the board, the dead cards, and of each range the hands without any of
-- these cards
abbrev pub ranges_of_cards : List (List ℕ) → List ℕ → List ℕ → Ranges
ranges_of_cards ranges board dead = record {
  board = set_of board;
  dead = set_of dead;
  ranges = map (hands_of (set_of board) (set_of dead)) ranges;
}

-- at least one range, each a word of items, and cards of the deck, none of them twice
pub record AreWritten (ranges : List (List ℕ)) (board dead : List ℕ) : Type 0 where
  pub some : 1 ≤ length ranges
  pub words : IsTrue (list_all is_word ranges)
  pub items : IsTrue (list_all is_range ranges)
  pub board_in_deck : IsTrue (all_in_deck board)
  pub dead_in_deck : IsTrue (all_in_deck dead)
  pub differ : IsTrue (all_differ (board ++ dead))

-- no board, a flop, a turn, or a river
abbrev pub IsBoard : List ℕ → Type 0
IsBoard board = (length board ≡ 0) ⊎ ((3 ≤ length board) × (length board ≤ 5))

-- two to four players
abbrev pub AreFew : List (List ℕ) → Type 0
AreFew ranges = (2 ≤ length ranges) × (length ranges ≤ 4)

-- a whole board, two cards for each player, and the dead cards
abbrev pub cards_needed : List (List ℕ) → List ℕ → ℕ
cards_needed ranges dead = 5 + 2 * length ranges + length dead

-- ranges that can be dealt are read as they are written
abbrev pub RangesAreRead : Type 0
RangesAreRead =
    (ranges : List (List ℕ)) (board dead : List ℕ) → AreWritten ranges board dead → IsBoard board → AreFew ranges → cards_needed ranges dead ≤ 52 →
    ranges_of (ranges_line ranges board dead) ≡ Ok (ranges_of_cards ranges board dead)

-- a board of another size is refused first, whatever other number is wrong
abbrev pub WrongBoardsAreRefused : Type 0
WrongBoardsAreRefused =
    (ranges : List (List ℕ)) (board dead : List ℕ) → AreWritten ranges board dead → (IsBoard board → ⊥) →
    ranges_of (ranges_line ranges board dead) ≡ Err BoardSize

-- after that another number of players is refused
abbrev pub WrongPlayersAreRefused : Type 0
WrongPlayersAreRefused =
    (ranges : List (List ℕ)) (board dead : List ℕ) → AreWritten ranges board dead → IsBoard board → (AreFew ranges → ⊥) →
    ranges_of (ranges_line ranges board dead) ≡ Err PlayerCount

-- after that a deck with too few cards is refused
abbrev pub ShortDecksAreRefused : Type 0
ShortDecksAreRefused =
    (ranges : List (List ℕ)) (board dead : List ℕ) → AreWritten ranges board dead → IsBoard board → AreFew ranges → 52 < cards_needed ranges dead →
    ranges_of (ranges_line ranges board dead) ≡ Err DeckShort
