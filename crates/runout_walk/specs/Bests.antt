-- The best of some hands by numbers.
use Rattle.std.specs.Prelude.{ℕ, ◌==◌, if◌then◌else◌, List, [], ◌∷◌, filter, max}
use Rattle.card_sets.specs.PlayerSets.{set_of_players}

-- the greatest number of some hands, 0 for none
abbrev pub best_value : (ℕ → ℕ) → List ℕ → ℕ
best_value value [] = 0
best_value value (h ∷ hands) = max (value h) (best_value value hands)

-- the hands with the greatest number, as the number with their bits
abbrev pub best_set : (ℕ → ℕ) → List ℕ → ℕ
best_set value hands = set_of_players (filter (λ h. value h == best_value value hands) hands)

-- the best of some hands, if 0 is the number of a hand that has no value: nobody if all have it
abbrev pub some_set : (ℕ → ℕ) → List ℕ → ℕ
some_set value hands = if best_value value hands == 0 then 0 else best_set value hands
