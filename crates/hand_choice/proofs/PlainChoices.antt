-- Each choice with nothing is the choice itself.
use Rattle.std.proofs.Common.{◌≡◌, ℕ, ◌≤◌, List, [], ◌∷◌, refl, ap, ◌∙◌, arith, length, map}
use Rattle.card_sets.specs.Cards.{IsCardSet, union}
use Rattle.card_sets.specs.Choose.{choose}
use Rattle.card_sets.proofs.CallerLemmas.{AreParts, AreParts-choose, set-part}

none_with : (set : List ℕ) → IsCardSet set → union [] set ≡ set
none_with set is = is

alone : (k : ℕ) (xs : List ℕ) (ls : List (List ℕ)) → IsCardSet xs → AreParts k xs ls → map (λ more. union [] more) ls ≡ ls
alone k xs [] set p = refl
alone k xs (l ∷ ls) set p =
    let here : union [] l ≡ l = none_with l (set-part l xs p.1 set) in
    ap (λ m. m ∷ map (λ more. union [] more) ls) here ∙ ap (λ ms. l ∷ ms) (alone k xs ls set p.2)

pub choices-alone : (k : ℕ) (xs : List ℕ) → IsCardSet xs → map (λ more. union [] more) (choose k xs) ≡ choose k xs
choices-alone k xs set = alone k xs (choose k xs) set (AreParts-choose k xs)

pub few_fives : (cards : List ℕ) → length cards ≤ 7 → length (choose 5 cards) ≤ 60
few_fives [] h = omega arith
few_fives (a ∷ []) h = omega arith
few_fives (a ∷ b ∷ []) h = omega arith
few_fives (a ∷ b ∷ c ∷ []) h = omega arith
few_fives (a ∷ b ∷ c ∷ d ∷ []) h = omega arith
few_fives (a ∷ b ∷ c ∷ d ∷ e ∷ []) h = omega arith
few_fives (a ∷ b ∷ c ∷ d ∷ e ∷ f ∷ []) h = omega arith
few_fives (a ∷ b ∷ c ∷ d ∷ e ∷ f ∷ g ∷ []) h = omega arith
few_fives (a ∷ b ∷ c ∷ d ∷ e ∷ f ∷ g ∷ i ∷ rest) h = absurd (omega arith)
