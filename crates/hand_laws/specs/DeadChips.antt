-- In which pot dead chips are, and what folded players put in above the highest level.
use Rattle.std.specs.Prelude.{◌≡◌, ℕ, ◌+◌, ◌-◌, min, List, [], ◌∷◌, ◌++◌, sum_by}
use Rattle.pot_layers.specs.declared.paid.Paid.{Paid}
use Rattle.pot_layers.specs.declared.paid.Pot.{Pot}
use Rattle.pot_layers.specs.Pots.{highest, levels, pots}

-- where there are two pots or more, the first holds of each player what was put in up to its level, and all dead chips. The last holds
-- what was put in between the last two levels, and all that is above the most that a contender put in
pub record HoldDeadAndFolded (ps : List Paid) : Type 0 where
  pub first : (level next : ℕ) (higher : List ℕ) → levels ps ≡ level ∷ next ∷ higher
      → (pot : Pot) × (later : List Pot) × (pots ps ≡ pot ∷ later) × (pot.units ≡ sum_by (λ p. min p.live level + p.dead) ps)
  pub last : (lower : List ℕ) (below level : ℕ) → levels ps ≡ lower ++ below ∷ level ∷ []
      → (earlier : List Pot) × (pot : Pot) × (pots ps ≡ earlier ++ pot ∷ [])
      × (pot.units ≡ sum_by (λ p. min p.live level - min p.live below) ps + sum_by (λ p. p.live - highest ps) ps)

abbrev pub DeadChipsAreFirst : Type 0
DeadChipsAreFirst = (ps : List Paid) → HoldDeadAndFolded ps
