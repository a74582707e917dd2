-- The games on a spot line: the game that a word names, and how many cards a hand and the board may have.
use Rattle.std.specs.Prelude.{ℕ, Bool, ◌+◌, ◌==◌, ◌&&◌, ◌||◌, if◌then◌else◌, List, [], ◌∷◌, Option, Some, None, nat_le}
use Rattle.std.specs.Str.{bytes_eq}
use Rattle.card_sets.specs.Games.{all_games, game_word, own_size, board_size, has_draw}
use Rattle.card_sets.specs.Streets.{dealt_on}
use Rattle.card_sets.specs.declared.games.Game.{Game}
use Rattle.card_sets.specs.declared.streets.Street.TheVariants.{First}

-- the first of some games that a word names
abbrev pub named_among : List Game → List ℕ → Option Game
named_among [] word = None
named_among (game ∷ games) word =
    if bytes_eq word (game_word game) then Some game else named_among games word

-- the game that a word names
abbrev pub game_named : List ℕ → Option Game
game_named word = named_among all_games word

-- the fewest cards of a hand: those of the first street, and any number that is kept in a draw
abbrev pub least_own : Game → ℕ
least_own game = if has_draw game then 0 else (dealt_on game First).down + (dealt_on game First).up

-- whether a hand may have a number of cards
abbrev pub hand_fits : Game → ℕ → Bool
hand_fits game count = nat_le (least_own game) count && nat_le count (own_size game)

-- whether a board may: none, or those of a flop, a turn, or a river
abbrev pub board_fits : Game → ℕ → Bool
board_fits game count = (count == 0) || (nat_le 3 count && nat_le count (board_size game))
