-- Writes of a piece, one after the other.
use Rattle.std.proofs.Common.{◌≡◌, ℕ, ◌<◌, List, [], ◌∷◌, ◌++◌, Option, Some, length, refl, ap, sym, subst, ◌∙◌, append_assoc, append-nil}
use Rattle.std.specs.List.{concat}
use Rattle.byte_ends.specs.Ends.{WritesOn}

-- one write more
pub writes_one_more : {K : Type 0} (writes : K → K → Option (List ℕ) → Type 0) (old mid new : K) (parts : List (List ℕ)) (part : List ℕ)
    → WritesOn writes old parts mid → 0 < length part → writes mid new (Some part) → WritesOn writes old (parts ++ part ∷ []) new
writes_one_more {K} writes old mid new [] part w some one = (new, some, subst (λ (k : K). writes k new (Some part)) w one, refl)
writes_one_more writes old mid new (first ∷ later) part w some one = (w.0, w.1, w.2, writes_one_more writes w.0 mid new later part w.3 some one)

-- what they take in all
pub concat-one_more : (parts : List (List ℕ)) (part : List ℕ) → concat (parts ++ part ∷ []) ≡ concat parts ++ part
concat-one_more [] part = append-nil part
concat-one_more (first ∷ later) part = ap (λ xs. first ++ xs) (concat-one_more later part) ∙ sym (append_assoc first (concat later) part)
