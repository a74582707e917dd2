-- Where a spot is read: among the hands, on the board, or among the dead cards.
use Rattle.std.specs.Prelude.{ℕ, Bool, ◌&&◌, if◌then◌else◌, List, Option, Some, None, is_some}
use Rattle.std.specs.List.{before_first, after_first}
use Rattle.card_sets.specs.CardText.{card_of_text}
use Rattle.spot_text.specs.Parts.{is_slash, is_dashes, is_dash, all_cards, in_form}

pub data Section : Type 0 where
  Hands : Section
  Board : Section
  Dead : Section

-- a card leads to no other section, and no other word may stand
abbrev pub behind_card : Section → List ℕ → Option Section
behind_card section word = if is_some (card_of_text word) then Some section else None

-- the section after a word, if the word may stand there
abbrev pub section_behind : Section → List ℕ → Option Section
section_behind Hands word =
    if is_slash word then Some Dead else (if is_dashes word then Some Board
    else (if is_dash word then Some Hands else behind_card Hands word))
section_behind Board word = if is_slash word then Some Dead else behind_card Board word
section_behind Dead word = behind_card Dead word

-- whether the words from a section on are cards, but for the marks between sections
abbrev pub stands_from : Section → List (List ℕ) → Bool
stands_from Hands words = in_form words
stands_from Board words =
    all_cards (before_first is_slash words) && all_cards (after_first is_slash words)
stands_from Dead words = all_cards words
