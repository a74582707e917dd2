-- The parts of a spot, as the marks between them cut its words: the hands, the board and the dead cards.
use Rattle.std.specs.Prelude.{ℕ, Bool, ◌&&◌, List, codes, is_some}
use Rattle.std.specs.List.{list_all, filter_map, slice_split, before_first, after_first}
use Rattle.std.specs.Str.{bytes_eq}
use Rattle.card_sets.specs.Cards.{cards_where, has_card}
use Rattle.card_sets.specs.CardText.{card_of_text}

-- the mark before the dead cards, before the board, and before the next hand
abbrev pub is_slash : List ℕ → Bool
is_slash word = bytes_eq word (codes "/")

abbrev pub is_dashes : List ℕ → Bool
is_dashes word = bytes_eq word (codes "--")

abbrev pub is_dash : List ℕ → Bool
is_dash word = bytes_eq word (codes "-")

-- the dead cards stand after the first slash
unfoldable pub dead_words : List (List ℕ) → List (List ℕ)
dead_words others = after_first is_slash others

-- the board stands before it, after the first two dashes
unfoldable pub board_words : List (List ℕ) → List (List ℕ)
board_words others = after_first is_dashes (before_first is_slash others)

-- the hands stand before both, cut at each dash
unfoldable pub hand_words : List (List ℕ) → List (List (List ℕ))
hand_words others = slice_split is_dash (before_first is_dashes (before_first is_slash others))

-- whether words are cards
abbrev pub all_cards : List (List ℕ) → Bool
all_cards part = list_all (λ word. is_some (card_of_text word)) part

-- whether each part is made of cards alone
abbrev pub in_form : List (List ℕ) → Bool
in_form others = list_all all_cards (hand_words others)
    && (all_cards (board_words others) && all_cards (dead_words others))

-- the cards that words name, from the left
abbrev pub cards_of : List (List ℕ) → List ℕ
cards_of part = filter_map card_of_text part

-- the cards of a list, as a set
abbrev pub set_of : List ℕ → List ℕ
set_of cards = cards_where (has_card cards)
