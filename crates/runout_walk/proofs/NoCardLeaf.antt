-- The one runout of a leaf that deals no card.
use Rattle.std.proofs.Common.{◌≡◌, ℕ, zero, suc, ◌<◌, ◌≤◌, List, [], ◌∷◌, ◌++◌, length, map, refl, sym, ap, ◌∙◌, arith, subst, append-nil}
use Rattle.std.specs.List.{slice_range}
use Rattle.card_sets.specs.Choose.{choose}
use Rattle.runout_ranges.specs.Runouts.{HasMember}
use Rattle.showdown_tally.specs.Showdown.{Showdown}
use Rattle.showdown_tally.specs.SideCounts.{CountsGrow}

only_list : (rest : List ℕ) (left lo hi : ℕ) → left ≡ 0 → lo < hi → hi ≤ length (choose left rest) → slice_range (choose left rest) lo hi ≡ [] ∷ []
only_list rest zero lo hi z l h = one lo hi l h
  where
    one : (lo hi : ℕ) → lo < hi → hi ≤ 1 → slice_range {X = List ℕ} ([] ∷ []) lo hi ≡ [] ∷ []
    one lo hi l k = let a : lo ≡ 0 = omega arith in let b : hi ≡ 1 = omega arith in rw (a, b) refl
only_list rest (suc n) lo hi z l h = absurd (omega arith)

pub only_member : (M : List ℕ → Type 0) (taken rest : List ℕ) (left : ℕ) → left ≡ 0 → ((more : List ℕ) → HasMember (choose left rest) more → M (taken ++ more)) → M taken
only_member M taken rest zero z all = subst M (append-nil taken) (all [] ([], [], refl))
only_member M taken rest (suc n) z all = absurd (omega arith)

pub only_length : (left : ℕ) (rest : List ℕ) → left ≡ 0 → length (choose left rest) ≡ 1
only_length zero rest z = refl
only_length (suc n) rest z = absurd (omega arith)

pub only_grown : (deal : Showdown) (front : List (List ℕ)) (taken rest : List ℕ) (left lo hi : ℕ) (old new : List (List ℕ)) → left ≡ 0 → lo < hi → hi ≤ length (choose left rest) → CountsGrow deal ((front ++ taken ∷ []) ∷ []) old new
    → CountsGrow deal (map (λ more. front ++ (taken ++ more) ∷ []) (slice_range (choose left rest) lo hi)) old new
only_grown deal front taken rest left lo hi old new z l h grown =
    let P : List (List (List ℕ)) → Type 0 = λ l. CountsGrow deal l old new in
    let same : map (λ more. front ++ (taken ++ more) ∷ []) (slice_range (choose left rest) lo hi) ≡ (front ++ taken ∷ []) ∷ [] =
    ap (map (λ more. front ++ (taken ++ more) ∷ [])) (only_list rest left lo hi z l h) ∙ ap (λ (cards : List ℕ). (front ++ cards ∷ []) ∷ []) (append-nil taken) in
    subst P (sym same) grown
