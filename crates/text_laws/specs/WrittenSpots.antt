-- A written spot, and what the laws of its reading say.
use Rattle.std.specs.Prelude.{ℕ, Bool, ◌&&◌, not, List, [], ◌∷◌, ◌++◌, map, length, nat_lt, codes, IsTrue}
use Rattle.std.specs.List.{concat, list_all, join_with_byte}
use Rattle.card_sets.specs.declared.games.Game.{Game}
use Rattle.card_sets.specs.CardText.{text_of_card}
use Rattle.card_sets.specs.State.{State}
use Rattle.spot_text.specs.Words.{is_gap}
use Rattle.spot_text.specs.Parts.{set_of}
use Rattle.card_sets.specs.Games.{game_word}
use Rattle.spot_text.specs.Games.{hand_fits, board_fits}
use Rattle.spot_text.specs.Spot.{all_differ, all_in_deck, players_fit, is_short}

-- some bytes, none of them a space or a tab
abbrev pub is_word : List ℕ → Bool
is_word bytes = nat_lt 0 (length bytes) && list_all (λ byte. not (is_gap byte)) bytes

-- the words of cards
abbrev pub texts : List ℕ → List (List ℕ)
texts cards = map text_of_card cards

-- written hands, with a dash between them
abbrev pub hands_text : List (List ℕ) → List (List ℕ)
hands_text [] = []
hands_text (hand ∷ []) = texts hand
hands_text (hand ∷ next ∷ hands) = texts hand ++ codes "-" ∷ hands_text (next ∷ hands)

-- the line of a game, hands, a board, and dead cards
abbrev pub spot_line : Game → List (List ℕ) → List ℕ → List ℕ → List ℕ
spot_line game hands board dead =
    join_with_byte 32 (game_word game
    ∷ (hands_text hands ++ codes "--" ∷ (texts board ++ codes "/" ∷ texts dead)))

-- their state
abbrev pub state_of_cards : Game → List (List ℕ) → List ℕ → List ℕ → State
state_of_cards game hands board dead = record {
  game = game;
  hands = map set_of hands;
  board = set_of board;
  dead = set_of dead;
}

-- a spot that may be written: cards of the deck, none of them twice, in places of the right size, and enough cards left
pub record MayBeWritten (game : Game) (hands : List (List ℕ)) (board dead : List ℕ) : Type 0 where
  pub hands_in_deck : IsTrue (list_all all_in_deck hands)
  pub board_in_deck : IsTrue (all_in_deck board)
  pub dead_in_deck : IsTrue (all_in_deck dead)
  pub differ : IsTrue (all_differ (concat hands ++ (board ++ dead)))
  pub own : IsTrue (list_all (λ hand. hand_fits game (length hand)) hands)
  pub table : IsTrue (board_fits game (length board))
  pub players : IsTrue (players_fit (length hands))
  pub enough : IsTrue (not (is_short (state_of_cards game hands board dead)))
