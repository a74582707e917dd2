-- The fives that a game allows, as a player would describe them.
use Rattle.std.specs.Prelude.{◌≡◌, ℕ, true, List, [], ◌∷◌, length}
use Rattle.card_sets.specs.Cards.{IsCardSet}
use Rattle.card_sets.specs.Disjoint.{apart}
use Rattle.card_sets.specs.Games.{allowed}
use Rattle.card_sets.specs.declared.games.Game.{Game}

-- each set has five cards
abbrev pub AreFives : List (List ℕ) → Type 0
AreFives [] = Unit {0}
AreFives (five ∷ fives) = IsCardSet five × (length five ≡ 5) × AreFives fives

-- if the own cards and the board share no card, every five that a game allows has five cards
abbrev pub AllowsFives : Type 0
AllowsFives = (game : Game) (own board : List ℕ) → IsCardSet own → IsCardSet board → apart own board ≡ true → AreFives (allowed game own board)
