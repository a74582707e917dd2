-- What a spot line says.
use Rattle.std.specs.Prelude.{ℕ, Bool, true, ◌&&◌, not, if◌then◌else◌, List, [], ◌∷◌, ◌++◌, length, map, nat_le, nat_lt, Option, Some, None, Result, Ok, Err}
use Rattle.std.specs.List.{list_all, sum}
use Rattle.card_sets.specs.declared.games.Game.{Game}
use Rattle.card_sets.specs.Cards.{has_card}
use Rattle.card_sets.specs.State.{State}
use Rattle.runout_ranges.specs.Slots.{unseen, slots, counts_of}
use Rattle.spot_text.specs.declared.faults.SpotFault.{SpotFault}
use Rattle.spot_text.specs.declared.faults.SpotFault.TheVariants.{UnknownWord, BadCard, TwiceCard, HandSize, BoardSize, PlayerCount, DeckShort}
use Rattle.spot_text.specs.Words.{words}
use Rattle.spot_text.specs.Games.{game_named, hand_fits, board_fits}
use Rattle.spot_text.specs.Parts.{hand_words, board_words, dead_words, in_form, cards_of, set_of}

-- the first of some cards that stands among those before it
abbrev pub repeated_after : List ℕ → List ℕ → Option ℕ
repeated_after before [] = None
repeated_after before (card ∷ cards) =
    if has_card before card then Some card else repeated_after (before ++ card ∷ []) cards

-- no card stands twice
abbrev pub all_differ : List ℕ → Bool
all_differ [] = true
all_differ (card ∷ cards) = not (has_card cards card) && all_differ cards

-- cards of the deck
abbrev pub all_in_deck : List ℕ → Bool
all_in_deck cards = list_all (λ card. nat_lt card 52) cards

-- each hand has as many cards as the game allows
abbrev pub hands_fit : Game → List (List (List ℕ)) → Bool
hands_fit game hands = list_all (λ hand. hand_fits game (length hand)) hands

-- there are two players or more, and at most a given number; on a spot line they are two to ten
abbrev pub players_within : ℕ → ℕ → Bool
players_within most count = nat_le 2 count && nat_le count most

abbrev pub players_fit : ℕ → Bool
players_fit count = players_within 10 count

-- the state of the parts
abbrev pub state_of_words : Game → List (List ℕ) → State
state_of_words game others = record {
  game = game;
  hands = map (λ hand. set_of (cards_of hand)) (hand_words others);
  board = set_of (cards_of (board_words others));
  dead = set_of (cards_of (dead_words others));
}

-- whether fewer cards may still come than are lacking
abbrev pub is_short : State → Bool
is_short state = nat_lt (length (unseen state)) (sum (counts_of (slots state)))

abbrev pub unless_short : State → Result State SpotFault
unless_short state = if is_short state then Err DeckShort else Ok state

-- the sizes are tested in this order
abbrev pub spot_of_sizes : Game → List (List ℕ) → Result State SpotFault
spot_of_sizes game others =
    if hands_fit game (hand_words others) then
    (if board_fits game (length (board_words others)) then
    (if players_fit (length (hand_words others)) then unless_short (state_of_words game others)
    else Err PlayerCount)
    else Err BoardSize)
    else Err HandSize

-- the first card that stands twice, or else what the sizes say
abbrev pub unless_repeated : Option ℕ → Game → List (List ℕ) → Result State SpotFault
unless_repeated None game others = spot_of_sizes game others
unless_repeated (Some card) game others = Err (TwiceCard card)

-- what the words after the game's say
abbrev pub spot_behind : Game → List (List ℕ) → Result State SpotFault
spot_behind game others =
    if in_form others then unless_repeated (repeated_after [] (cards_of others)) game others
    else Err BadCard

-- the first word names the game
abbrev pub spot_of_game : Option Game → List (List ℕ) → Result State SpotFault
spot_of_game None others = Err UnknownWord
spot_of_game (Some game) others = spot_behind game others

abbrev pub spot_of_words : List (List ℕ) → Result State SpotFault
spot_of_words [] = Err UnknownWord
spot_of_words (word ∷ others) = spot_of_game (game_named word) others

-- what a spot line says: the known cards, or the first fault
abbrev pub spot_of : List ℕ → Result State SpotFault
spot_of line = spot_of_words (words line)
