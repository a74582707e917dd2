-- The lines of the hands or pots numbered below n.
use Rattle.std.proofs.Common.{◌≡◌, ℕ, zero, suc, ◌<◌, List, [], ◌∷◌, refl, sym, ◌∙◌, arith}
use Rattle.std.specs.List.{flat_map}
use Rattle.std.proofs.lemmas.Grind.{flat_map-append}
use Rattle.report_sheet.specs.SpotLines.{every_hand}

-- equal lines for each number below n
pub every_same : (f g : ℕ → List ℕ) (n : ℕ) → ((k : ℕ) → k < n → f k ≡ g k) → flat_map f (every_hand n) ≡ flat_map g (every_hand n)
every_same f g zero same = refl
every_same f g (suc n) same =
    let here : f n ≡ g n = same n (omega arith) in
    let before = every_same f g n (λ k below. same k (omega arith)) in
    flat_map-append f (every_hand n) (n ∷ []) ∙ rw (here, before) (sym (flat_map-append g (every_hand n) (n ∷ [])))
