-- How a runout ends for a side of a pot, as one number.
use Rattle.std.specs.Prelude.{◌≡◌, ℕ, ◌<◌, List, Option, length}
use Rattle.std.specs.Option.{option_map}
use Rattle.card_sets.specs.State.{State}
use Rattle.card_sets.specs.declared.games.Side.{Side}
use Rattle.showdown_tally.specs.Laws.{IsFull}
use Rattle.showdown_tally.specs.Numbers.{side_number}
use Rattle.card_sets.specs.PlayerSets.{set_of_players}
use Rattle.showdown_tally.specs.Settling.{number_of}
use Rattle.showdown_tally.specs.Showdown.{Showdown, winners, value_after, own_after, board_after}

-- who wins a side of a pot after a runout, as the number with the bits of the winners
abbrev pub side_outcome : Side → Showdown → ℕ → List (List ℕ) → ℕ
side_outcome side deal pot runout = set_of_players (winners deal pot side runout)

-- some numbers are those of the hands' values on a side after a runout, with which no card is missing
pub record AreSideNumbersAfter (side : Side) (state : State) (runout : List (List ℕ)) (values : List (Option ℕ)) : Type 0 where
  pub numbers : (h : ℕ) → h < length state.hands → number_of values h ≡ option_map (side_number side state.game) (value_after side state runout h)
  pub full : (h : ℕ) → h < length state.hands → IsFull state.game (own_after state runout h) (board_after state runout)
