-- Who may win the pot of a level.
use Rattle.std.specs.Prelude.{◌≡◌, ◌<◌, ℕ, List, [], ◌∷◌}
use Rattle.card_sets.specs.PlayerSets.{has_player}
use Rattle.pot_layers.specs.declared.paid.Paid.{Paid}
use Rattle.pot_layers.specs.declared.paid.Pot.{Pot}
use Rattle.pot_layers.specs.Pots.{levels, reaches, pots}

-- a pot for each level: a seat is eligible in it exactly where it is of a contender who has paid up to that level
abbrev pub EligibleBy : List Paid → List ℕ → List Pot → Type 0
EligibleBy ps [] pots = Unit {0}
EligibleBy ps (level ∷ levels) [] = ⊥
EligibleBy ps (level ∷ levels) (pot ∷ pots) = ((seat : ℕ) → seat < 11 → has_player pot.eligible seat ≡ reaches ps level seat) × EligibleBy ps levels pots

-- nobody is eligible in a pot to whose level he hasn't paid, and whoever has is
abbrev pub ReachesLevels : Type 0
ReachesLevels = (ps : List Paid) → EligibleBy ps (levels ps) (pots ps)
