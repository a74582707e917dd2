-- The marks of players in the stud games, by which winners get odd units. This project's own.
use Rattle.std.specs.Prelude.{ℕ, not, if◌then◌else◌, List, [], ◌∷◌, map, filter, max, Option, Some, None}
use Rattle.std.specs.List.{list_all}
use Rattle.card_sets.specs.Games.{allowed, has_marks}
use Rattle.card_sets.specs.declared.games.Game.{Game}
use Rattle.card_sets.specs.declared.games.Side.{Side}
use Rattle.card_sets.specs.declared.games.Side.TheVariants.{High, Low}
use Rattle.rank_high.specs.High.{high}
use Rattle.rank_low.specs.Low.{low_a5, ace_low}
use Rattle.showdown_tally.specs.Showdown.{beats}

-- what five cards are worth, as a high hand or as an ace-to-five low
abbrev pub worth_of_five : Side → List ℕ → List ℕ
worth_of_five High five = high five
worth_of_five Low five = low_a5 five

-- the fives of best value: those that no other beats
unfoldable pub best_fives : Side → List (List ℕ) → List (List ℕ)
best_fives side fives = filter (λ five. list_all (λ other. not (beats side (worth_of_five side other) (worth_of_five side five))) fives) fives

-- how high a card counts: by its rank and then its suit, with the ace below the deuce on the low side
abbrev pub height : Side → ℕ → ℕ
height High card = card
height Low card = ace_low card

-- the greatest of some numbers, 0 for none
abbrev pub highest : List ℕ → ℕ
highest [] = 0
highest (n ∷ numbers) = max n (highest numbers)

-- how high the highest card of a five counts
abbrev pub top_card : Side → List ℕ → ℕ
top_card side five = highest (map (height side) five)

-- how high the highest card of some fives counts that are of best value
unfoldable pub mark_among : Side → List (List ℕ) → ℕ
mark_among side fives = highest (map (top_card side) (best_fives side fives))

-- a player's mark on a side is that of the fives that the game allows; the other games have no marks
abbrev pub mark_by : Side → Game → List ℕ → List ℕ → ℕ
mark_by side game board own = if has_marks game then mark_among side (allowed game own board) else 0

-- and 0 where his cards are unknown, or the game hasn't the side
abbrev pub mark_of : Option Side → Game → List ℕ → Option (List ℕ) → ℕ
mark_of None game board own = 0
mark_of (Some side) game board None = 0
mark_of (Some side) game board (Some own) = mark_by side game board own
