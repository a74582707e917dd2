-- The numbers that fives are kept as where marks are looked for.
use Rattle.std.specs.Prelude.{ℕ, List, map}
use Rattle.card_sets.specs.declared.games.Side.{Side}
use Rattle.card_sets.specs.declared.games.Side.TheVariants.{High, Low}
use Rattle.rank_high.specs.High.{high, value_of}
use Rattle.rank_low.specs.Low.{low_a5, ace_number}
use Rattle.showdown_tally.specs.Numbers.{turned}
use Rattle.hand_audit.specs.Marks.{highest}

-- the number that a five's worth is kept as: greater is better
unfoldable pub number_of_five : Side → List ℕ → ℕ
number_of_five High five = value_of (high five)
number_of_five Low five = turned (ace_number (low_a5 five))

-- the greatest number of some fives
abbrev pub top_number : Side → List (List ℕ) → ℕ
top_number side fives = highest (map (number_of_five side) fives)
