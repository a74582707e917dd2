-- The number of ways to deal, and in plain words what a way to deal is.
use Rattle.std.specs.Prelude.{◌≡◌, ℕ, zero, suc, ◌+◌, ◌-◌, ◌*◌, List, [], ◌∷◌, ◌++◌, map, length, All, IsTrue, true}
use Rattle.card_sets.specs.Cards.{has_card, IsRising}
use Rattle.card_sets.specs.Disjoint.{all_apart}
use Rattle.runout_ranges.specs.Runouts.{HasMember}

-- the number of choices of k of n, by Pascal's triangle
abbrev pub binomial : ℕ → ℕ → ℕ
binomial n zero = 1
binomial zero (suc k) = 0
binomial (suc n) (suc k) = binomial n k + binomial n (suc k)

-- the product of the binomials, slot by slot, over the cards left
abbrev pub ways : ℕ → List ℕ → ℕ
ways left [] = 1
ways left (n ∷ counts) = binomial left n * ways (left - n) counts

-- each card of the first list is in the second
abbrev pub Within : List ℕ → List ℕ → Type 0
Within cards all = (card : ℕ) → has_card cards card ≡ true → has_card all card ≡ true

-- the sets fill slots with these counts: one set for each slot, with its count of cards, each a rising list, no card in
-- two of them, and only cards that may come
pub record Fills (unseen counts : List ℕ) (sets : List (List ℕ)) : Type 0 where
  pub sizes : map length sets ≡ counts
  pub rising : All IsRising sets
  pub apart : IsTrue (all_apart sets)
  pub may_come : All (λ set. Within set unseen) sets

-- no member is in the list twice
abbrev pub NoneTwice : {X : Type 0} → List X → Type 0
NoneTwice {X} list = (x : X) (front back : List X) → list ≡ front ++ x ∷ back → ¬ HasMember back x
