-- Sums over the pots numbered below n.
use Rattle.std.proofs.Common.{◌≡◌, ℕ, zero, suc, ◌<◌, [], ◌∷◌, refl, sym, ◌∙◌, arith}
use Rattle.std.specs.List.{sum_by}
use Rattle.std.proofs.lemmas.List.Sums.{sum_by-append}
use Rattle.report_sheet.specs.SpotLines.{every_hand}

-- an equal term for each number below n
pub sums_same : (f g : ℕ → ℕ) (n : ℕ) → ((k : ℕ) → k < n → f k ≡ g k) → sum_by f (every_hand n) ≡ sum_by g (every_hand n)
sums_same f g zero same = refl
sums_same f g (suc n) same =
    let here : f n ≡ g n = same n (omega arith) in
    let before = sums_same f g n (λ k below. same k (omega arith)) in
    sum_by-append f (every_hand n) (n ∷ []) ∙ rw (here, before) (sym (sum_by-append g (every_hand n) (n ∷ [])))
