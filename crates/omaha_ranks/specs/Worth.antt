-- The best worth of cards on a side, as a number. Greater is better.
use Rattle.std.specs.Prelude.{ℕ, ◌-◌, ◌^◌, List, [], ◌∷◌, map, max, Option, Some, None}
use Rattle.std.specs.Option.{option_map}
use Rattle.card_sets.specs.Cards.{union}
use Rattle.card_sets.specs.Choose.{choose}
use Rattle.card_sets.specs.declared.games.Side.{Side}
use Rattle.card_sets.specs.declared.games.Side.TheVariants.{High, Low}
use Rattle.rank_high.specs.High.{value_of}
use Rattle.rank_high.specs.Parts.{best_plain}
use Rattle.rank_low.specs.Low.{best_eight, ace_number}

-- the number of a low, turned round so that greater is better; 0 for no low
abbrev pub low_worth : Option ℕ → ℕ
low_worth None = 0
low_worth (Some low) = 2 ^ 32 - 1 - low

-- the worth of the best five of some cards: as a high by ranks alone, or as a low of eight or better
unfoldable pub worth : Side → List ℕ → ℕ
worth High cards = value_of (best_plain cards)
worth Low cards = low_worth (option_map ace_number (best_eight cards))

-- the greatest of some numbers, 0 if there is none
abbrev pub greatest_number : List ℕ → ℕ
greatest_number [] = 0
greatest_number (n ∷ ns) = max n (greatest_number ns)

-- the best worth of the kept cards and `missing` cards of the rest
unfoldable pub best_with : Side → List ℕ → ℕ → List ℕ → ℕ
best_with side kept missing rest = greatest_number (map (λ more. worth side (union kept more)) (choose missing rest))

-- the best worth of the taken cards, `missing` cards of the rest, and three cards of the board
unfoldable pub best_own : Side → List ℕ → ℕ → List ℕ → List ℕ → ℕ
best_own side taken missing rest board = greatest_number (map (λ more. best_with side (union taken more) 3 board) (choose missing rest))
