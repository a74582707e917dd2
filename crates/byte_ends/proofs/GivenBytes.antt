-- The bytes that a read gives.
use Rattle.std.proofs.Common.{◌≡◌, ℕ, ◌<◌, ◌≤◌, List, [], ◌∷◌, ◌++◌, length, take, drop, refl, sym, ap, ◌∙◌, arith}
use Rattle.std.proofs.lemmas.List.{length-take-le, take-append-drop}
use Rattle.byte_ends.specs.Memory.{IsGiven, least}

none_left : (xs : List ℕ) → length xs ≡ 0 → xs ≡ []
none_left [] e = refl
none_left (x ∷ xs) e = absurd (omega (arith, e))

-- the least of the room, of what is given at once and of what is left
pub given_least : (room most n : ℕ) (left after : List ℕ) → n ≡ least room most (length left) → 0 < room → 0 < most → take n after ≡ take n left → IsGiven most left (take n after) (drop n left)
given_least room most n left after size some more front =
    let within : n ≤ length left = omega (arith, size) in
    let count : length (take n after) ≡ n = ap length front ∙ length-take-le n left within in
    record {
      first = sym (take-append-drop n left) ∙ ap (λ f. f ++ drop n left) (sym front);
      few = omega (arith, count, size);
      some = λ none. none_left left (omega (arith, size, count, ap length none, some, more));
    }
