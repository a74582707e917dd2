-- What own cards are worth with each three ranks of the board, where two of them come to three of it.
use Rattle.std.specs.Prelude.{◌≡◌, ℕ, ◌+◌, ◌*◌, ◌<◌, ◌≤◌, List, [], ◌∷◌, length, slice_index}
use Rattle.card_sets.specs.Cards.{rank_of}
use Rattle.card_sets.specs.declared.games.Side.{Side}
use Rattle.card_sets.specs.declared.games.Side.TheVariants.{High, Low}
use Rattle.rank_high.specs.High.{count_of_rank, value_of}
use Rattle.omaha_ranks.specs.Omaha.{ArePlaced, eight_number, fives, omaha_plain}
use Rattle.omaha_ranks.specs.Worth.{low_worth}
use Rattle.board_ranks.specs.Values.{one_of}

-- what own cards are worth with a board: as a high by ranks alone, or as a low of eight or better, turned round so that greater is better,
-- and 0 where there is none
abbrev pub two_own_worth : Side → List ℕ → List ℕ → ℕ
two_own_worth High own board = value_of (omaha_plain own board)
two_own_worth Low own board = low_worth (eight_number (fives own board))

-- three cards of these ranks, none of which is an own card
pub record IsThree (own : List ℕ) (low mid high : ℕ) (three : List ℕ) : Type 0 where
  pub placed : ArePlaced own three
  pub ranks : (r : ℕ) → r < 13 → count_of_rank three r ≡ one_of low r + one_of mid r + one_of high r

-- there are none
abbrev pub HasNoThree : List ℕ → ℕ → ℕ → ℕ → Type 0
HasNoThree own low mid high = (three : List ℕ) → IsThree own low mid high three → ⊥

-- a number is what own cards are worth on a side with such three cards, whichever they are
abbrev pub IsThreeWorth : Side → List ℕ → ℕ → ℕ → ℕ → ℕ → Type 0
IsThreeWorth side own low mid high worth = (three : List ℕ) → IsThree own low mid high three → worth ≡ two_own_worth side own three

-- where a table has the number of three ranks: at 169 times the lowest, 13 times the middle one and the highest
abbrev pub three_place : ℕ → ℕ → ℕ → ℕ
three_place low mid high = 169 * low + 13 * mid + high

-- the number that a table has for three cards
abbrev pub three_number : List ℕ → List ℕ → ℕ
three_number values [] = 0
three_number values (low ∷ []) = 0
three_number values (low ∷ mid ∷ []) = 0
three_number values (low ∷ mid ∷ high ∷ more) = slice_index values (three_place (rank_of low) (rank_of mid) (rank_of high))

-- a table has what four own cards are worth on a side with each three ranks, of which none is below the one before
abbrev pub AreThrees : Side → List ℕ → List ℕ → Type 0
AreThrees side own values = length own ≡ 4 → (low mid high : ℕ) → low ≤ mid → mid ≤ high → high < 13 → IsThreeWorth side own low mid high (slice_index values (three_place low mid high))
