-- In which order the winners of a side get odd units.
use Rattle.std.specs.Prelude.{◌≡◌, ℕ, ◌+◌, ◌-◌, ◌<◌, ◌≤◌, nat_lt, true, false, if◌then◌else◌, List, [], ◌∷◌, Option}
use Rattle.card_sets.specs.Games.{has_marks}
use Rattle.card_sets.specs.declared.games.Side.{Side}
use Rattle.hand_audit.specs.Settle.{Showing, mark_at, order_of}

-- how many places to the left of the button a seat is: 1 for the next one, and 10 for the button itself
abbrev pub places_left : ℕ → ℕ → ℕ
places_left button seat = if nat_lt button seat then seat - button else seat + 10 - button

-- each of some seats is further to the left than the one before
abbrev pub GoesLeft : ℕ → ℕ → List ℕ → Type 0
GoesLeft button from [] = Unit {0}
GoesLeft button from (seat ∷ later) = (from < places_left button seat) × GoesLeft button (places_left button seat) later

-- none of some seats has a higher mark than the one before
abbrev pub GoesDown : (ℕ → ℕ) → ℕ → List ℕ → Type 0
GoesDown mark most [] = Unit {0}
GoesDown mark most (seat ∷ later) = (mark seat ≤ most) × GoesDown mark (mark seat) later

-- the order of the winners of a side: to the left of the button in the games with a board or a draw, without a button (0) from
-- seat 1 on; by their marks, of which each is below 52, in the stud games
pub record IsOddOrder (side : Option Side) (s : Showing) (board : List ℕ) (winners : ℕ) : Type 0 where
  pub left : has_marks s.game ≡ false → s.button ≤ 10 → GoesLeft s.button 0 (order_of side s board winners)
  pub marks : has_marks s.game ≡ true → GoesDown (mark_at side s board) 51 (order_of side s board winners)

abbrev pub OddUnitsGoInOrder : Type 0
OddUnitsGoInOrder = (side : Option Side) (s : Showing) (board : List ℕ) (winners : ℕ) → IsOddOrder side s board winners
