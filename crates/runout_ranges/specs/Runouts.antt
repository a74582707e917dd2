-- The ways to deal the cards still to come, and the order of their listing.
use Rattle.std.specs.Prelude.{◌≡◌, ℕ, List, [], ◌∷◌, ◌++◌, map, filter, not}
use Rattle.std.specs.List.{flat_map}
use Rattle.card_sets.specs.Cards.{has_card}
use Rattle.card_sets.specs.Choose.{choose}

-- the cards of the list that aren't taken
abbrev pub left_by : List ℕ → List ℕ → List ℕ
left_by cards taken = filter (λ c. not (has_card taken c)) cards

-- all ways to fill the slots one after another, each by a choice of its count of the cards left; the ways are ordered
-- by the choice for the first slot, then for the second, and so on
abbrev pub runouts : List ℕ → List ℕ → List (List (List ℕ))
runouts unseen [] = [] ∷ []
runouts unseen (n ∷ counts) = flat_map (λ first. map (λ rest. first ∷ rest) (runouts (left_by unseen first) counts)) (choose n unseen)

-- x is somewhere in the list
abbrev pub HasMember : {X : Type 0} → List X → X → Type 0
HasMember {X} list x = (front back : List X) × (list ≡ front ++ x ∷ back)

-- the list begins with x
abbrev pub Begins : {X : Type 0} → List X → X → Type 0
Begins {X} list x = (rest : List X) × (list ≡ x ∷ rest)

-- wherever the list has `at`, the next member is `next`
abbrev pub Follows : {X : Type 0} → List X → X → X → Type 0
Follows {X} list at next = (done todo : List X) → list ≡ done ++ at ∷ todo → (rest : List X) × (todo ≡ next ∷ rest)

-- wherever the list has `at`, the list ends there
abbrev pub Ends : {X : Type 0} → List X → X → Type 0
Ends {X} list at = (done todo : List X) → list ≡ done ++ at ∷ todo → todo ≡ []
