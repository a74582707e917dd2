-- The order of the later streets of a hand.
use Rattle.std.specs.Prelude.{◌≡◌, List, [], ◌∷◌, Some}
use Rattle.card_sets.specs.declared.games.Game.{Game}
use Rattle.card_sets.specs.declared.streets.Street.{Street}
use Rattle.card_sets.specs.Streets.{next_street}

-- each of some streets is the one that comes next in the game after the one before it, the first of them after this one
abbrev pub ComeInOrder : Game → Street → List Street → Type 0
ComeInOrder game before [] = Unit {0}
ComeInOrder game before (street ∷ streets) = (next_street game (Some before) ≡ Some street) × ComeInOrder game street streets
