-- Pairs of cards as lists.
use Rattle.std.specs.Prelude.{ℕ, List, [], ◌∷◌}
use Rattle.board_ranks.specs.declared.pair.Pair.{Pair}

-- the two cards
abbrev pub cards_of_pair : Pair → List ℕ
cards_of_pair p = p.low ∷ p.high ∷ []
