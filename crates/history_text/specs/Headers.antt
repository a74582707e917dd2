-- Header lines.
use Rattle.std.specs.Prelude.{ℕ, suc, ◌+◌, ◌-◌, ◌==◌, ◌&&◌, ◌||◌, nat_le, nat_lt, nat_eq, if◌then◌else◌, Bool, false, List, [], ◌∷◌, length, take, drop, codes, Option, Some, None, option_map, option_and_then, Result, Ok, Err}
use Rattle.std.specs.List.{list_all, list_any, ends_with}
use Rattle.std.specs.Char.{is_ascii_alphabetic}
use Rattle.std.specs.Str.{bytes_eq}
use Rattle.card_sets.specs.declared.games.Game.{Game}
use Rattle.card_sets.specs.Games.{all_games, header_name}
use Rattle.line_text.specs.Amounts.{Written, written, units_of, greatest, digit_count}
use Rattle.hand_events.specs.declared.events.Header.{Header}
use Rattle.hand_events.specs.declared.events.Limit.{Limit}
use Rattle.hand_events.specs.declared.events.Limit.TheVariants.{NoLimit, PotLimit, Fixed}
use Rattle.hand_events.specs.declared.events.TextFault.{TextFault}
use Rattle.hand_events.specs.declared.events.TextFault.TheVariants.{BadHeader, UnknownGame, AmountTooLarge}
use Rattle.history_text.specs.Texts.{behind, cut_first, cut_last}
use Rattle.history_text.specs.Reading.{◌>>=◌, ◌otherwise◌, or_fault}
use Rattle.history_text.specs.Acts.{first_opening}

-- the text between `PokerStars ` and the first `#`, and the text after that
unfoldable pub title : List ℕ → Option (List ℕ × List ℕ)
title line = option_and_then (λ text. cut_first (codes "#") text) (behind (codes "PokerStars ") line)

abbrev pub is_letter_or_space : ℕ → Bool
is_letter_or_space byte = is_ascii_alphabetic byte || (byte == 32)

-- the first text has only letters and spaces and ends with `Hand ` or `Game `, and the text after the
-- `#` begins with a digit
abbrev pub is_title : List ℕ × List ℕ → Bool
is_title cut =
    list_all is_letter_or_space cut.0
    && (ends_with nat_eq cut.0 (codes "Hand ") || ends_with nat_eq cut.0 (codes "Game "))
    && nat_lt 0 (digit_count cut.1)

abbrev pub is_titled : Option (List ℕ × List ℕ) → Bool
is_titled None = false
is_titled (Some cut) = is_title cut

unfoldable pub is_header : List ℕ → Bool
is_header line = is_titled (title line)

-- the places of the first digit of the hand's number and of the byte after its last digit
abbrev pub number_places : List ℕ → Option (List ℕ × List ℕ) → ℕ × ℕ
number_places line None = (0, 0)
number_places line (Some cut) = (length line - length cut.1, length line - length cut.1 + digit_count cut.1)

unfoldable pub hand_number : List ℕ → ℕ × ℕ
hand_number line = number_places line (title line)

-- the text after one of the three starts and a number of at most 19 digits, with a colon and a space
abbrev pub is_start : List ℕ → Bool
is_start words =
    bytes_eq words (codes "Hand ") || (bytes_eq words (codes "Game ") || bytes_eq words (codes "Zoom Hand "))

unfoldable pub behind_start : List ℕ → Option (List ℕ)
behind_start line =
    option_and_then (λ cut.
    if is_start cut.0 && nat_le (digit_count cut.1) 19 then behind (codes ": ") (drop (digit_count cut.1) cut.1) else None)
    (title line)

-- the text after a game's name and a space
abbrev pub behind_name : Game → List ℕ → Option (List ℕ)
behind_name game text = option_and_then (λ rest. behind (codes " ") rest) (behind (header_name game) text)

-- the limits by their words
abbrev pub limit_words : Limit → List ℕ
limit_words NoLimit = codes "No Limit"
limit_words PotLimit = codes "Pot Limit"
limit_words Fixed = codes "Limit"

abbrev pub limits : List Limit
limits = NoLimit ∷ PotLimit ∷ Fixed ∷ []

-- a game's name, a space, and a limit, with the text after them
pub record Named : Type 0 where
  pub game : Game
  pub limit : Limit
  pub rest : List ℕ

abbrev pub game_at : List Game → List ℕ → Option Named
game_at [] text = None
game_at (game ∷ games) text =
    option_map (λ l. Some (let named : Named = record { game = game; limit = l.0; rest = l.1 } in named))
    (option_and_then (λ tail. first_opening limit_words limits tail) (behind_name game text))
    otherwise game_at games text

-- the first place of a game and its limit, with the text before it and what is found there
pub record Found : Type 0 where
  pub place : ℕ
  pub named : Named

abbrev pub one_on : Option Found → Option Found
one_on None = None
one_on (Some found) = Some (record { place = suc found.place; named = found.named })

abbrev pub found_first : Named → Option Found
found_first named = Some (record { place = 0; named = named })

abbrev pub first_game : List ℕ → Option Found
first_game [] = None
first_game (byte ∷ text) =
    option_map found_first (game_at all_games (byte ∷ text)) otherwise one_on (first_game text)

-- the word right before a place, with one space between
abbrev pub last_word : List ℕ → List ℕ
last_word text = option_map (λ cut. cut.1) (cut_last (codes " ") text) otherwise text

unfoldable pub word_before : List ℕ → List ℕ
word_before before = if ends_with nat_eq before (codes " ") then last_word (take (length before - 1) before) else []

-- the words that make another game of the name after them
abbrev pub other_words : List (List ℕ)
other_words =
    codes "6+" ∷ codes "Card" ∷ codes "Split" ∷ codes "Tempest" ∷ codes "Unfolded" ∷ codes "Showtime" ∷ codes "Fusion" ∷ []

abbrev pub is_other_word : List ℕ → Bool
is_other_word word = list_any (λ other. bytes_eq word other) other_words

-- the game of a name, unless the word before it makes it another game
unfoldable pub game_of : List ℕ → Game → Option Game
game_of before game = if is_other_word (word_before before) then None else Some game

-- two amounts with a slash between them, after `(` or `, `
abbrev pub second_stake : Written → List ℕ → Option (Written × Written)
second_stake first text = option_map (λ second. (first, second)) (written text)

abbrev pub stakes_of : List ℕ → Option (Written × Written)
stakes_of text =
    option_and_then (λ first. option_and_then (λ rest. second_stake first rest) (behind (codes "/") (drop first.length text))) (written text)

abbrev pub opened : List ℕ → Option (List ℕ)
opened text = option_map (λ rest. Some rest) (behind (codes "(") text) otherwise behind (codes ", ") text

unfoldable pub stakes_at : List ℕ → Option (Written × Written)
stakes_at text = option_and_then (λ rest. stakes_of rest) (opened text)

abbrev pub first_stakes : List ℕ → Option (Written × Written)
first_stakes [] = None
first_stakes (byte ∷ text) = option_map (λ stakes. Some stakes) (stakes_at (byte ∷ text)) otherwise first_stakes text

-- the stated big blind: the second stake, or the first if the limit is fixed
abbrev pub big_of : Limit → ℕ → ℕ → ℕ
big_of NoLimit first second = second
big_of PotLimit first second = second
big_of Fixed first second = first

abbrev pub staked : Game → Limit → Bool → ℕ → ℕ → Result Header TextFault
staked game limit hundredths first second =
    if (first == 0) || (second == 0) then Err BadHeader else
    (if nat_lt greatest first || nat_lt greatest second then Err AmountTooLarge else
    Ok (record { game = game; limit = limit; hundredths = hundredths; big = big_of limit first second }))

unfoldable pub with_stakes : Game → Limit → Written × Written → Result Header TextFault
with_stakes game limit stakes =
    let hundredths = stakes.0.marked || stakes.1.marked in
    staked game limit hundredths (units_of hundredths stakes.0) (units_of hundredths stakes.1)

-- the stakes at the first place after the limit that has two amounts
unfoldable pub header_behind : Game → Limit → List ℕ → Result Header TextFault
header_behind game limit text = do
  stakes ← or_fault BadHeader (first_stakes text)
  with_stakes game limit stakes

-- the header of a header line, or its first fault
unfoldable pub header_of : List ℕ → Result Header TextFault
header_of line = do
  text ← or_fault BadHeader (behind_start line)
  found ← or_fault UnknownGame (first_game text)
  game ← or_fault UnknownGame (game_of (take found.place text) found.named.game)
  header_behind game found.named.limit found.named.rest
