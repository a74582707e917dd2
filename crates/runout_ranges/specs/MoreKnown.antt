-- Two states of a hand. The second knows no fewer cards.
use Rattle.std.specs.Prelude.{◌≡◌, ◌≤◌, ℕ, [], length, sum, slice_index_or}
use Rattle.card_sets.specs.State.{State}
use Rattle.runout_ranges.specs.Runouts.{runouts}
use Rattle.runout_ranges.specs.Slots.{counts_of, slots, unseen}

-- the game, the number of hands, and the number of dead cards are the same, and of no hand and no board
-- are fewer cards known
pub record KnowsNoLess (before after : State) : Type 0 where
  pub game : after.game ≡ before.game
  pub hands : length after.hands ≡ length before.hands
  pub cards : (h : ℕ) → length (slice_index_or before.hands h []) ≤ length (slice_index_or after.hands h [])
  pub board : length before.board ≤ length after.board
  pub dead : length after.dead ≡ length before.dead

-- there are at least as many cards that may come as are lacking
abbrev pub IsEnough : State → Type 0
IsEnough s = sum (counts_of (slots s)) ≤ length (unseen s)

-- the number of runouts of a state
abbrev pub runout_count : State → ℕ
runout_count s = length (runouts (unseen s) (counts_of (slots s)))

-- enough cards may come in the second state, and it has no more runouts than the first
pub record HasNoMoreRunouts (before after : State) : Type 0 where
  pub enough : IsEnough after
  pub few : runout_count after ≤ runout_count before
