-- The first opening of a list that is two lists one after the other.
use Rattle.std.proofs.Common.{◌≡◌, ℕ, suc, ◌+◌, ◌<◌, List, [], ◌∷◌, ◌++◌, length, drop, get_or, Option, Some, None, refl, sym, ap, ◌∙◌, add-one}
use Rattle.std.proofs.Math.Seq.{drop-cons}
use Rattle.std.specs.Prelude.{option_map}
use Rattle.history_text.specs.Texts.{behind}
use Rattle.history_text.specs.Reading.{◌otherwise◌}
use Rattle.history_text.specs.Acts.{first_opening}

join_step : {X : Type 0} (x : X) (here : Option (List ℕ)) (later both others : Option (X × List ℕ)) →
    both ≡ (option_map (λ (found : X × List ℕ). Some found) later otherwise others) →
    (option_map (λ (rest : List ℕ). Some (x, rest)) here otherwise both)
    ≡ (option_map (λ (found : X × List ℕ). Some found) (option_map (λ (rest : List ℕ). Some (x, rest)) here otherwise later) otherwise others)
join_step x None later both others h = h
join_step x (Some rest) later both others h = refl

-- the first of some openings is the first of their front, or else of the others
pub first_opening-append : {X : Type 0} (words : X → List ℕ) (front others : List X) (text : List ℕ) →
    first_opening words (front ++ others) text
    ≡ (option_map (λ (found : X × List ℕ). Some found) (first_opening words front text) otherwise first_opening words others text)
first_opening-append words [] others text = refl
first_opening-append words (x ∷ front) others text =
    join_step x (behind (words x) text) (first_opening words front text) (first_opening words (front ++ others) text) (first_opening words others text)
    (first_opening-append words front others text)

from_here : {X : Type 0} (xs : List X) (i : ℕ) (x : X) → i < length xs → x ≡ get_or xs i x → drop i xs ≡ x ∷ drop (i + 1) xs
from_here xs i x inside is = rw add-one (drop-cons xs i x inside ∙ ap (λ y. y ∷ drop (suc i) xs) (sym is))

-- the first of the openings of a list from a place on
pub opening_past : {X : Type 0} (words : X → List ℕ) (xs : List X) (i : ℕ) (x : X) (text : List ℕ) → i < length xs → x ≡ get_or xs i x → None ≡ behind (words x) text
    → first_opening words (drop (i + 1) xs) text ≡ first_opening words (drop i xs) text
opening_past words xs i x text inside is none =
    let cut : drop i xs ≡ x ∷ drop (i + 1) xs = from_here xs i x inside is in
    sym (ap (λ ys. first_opening words ys text) cut
    ∙ ap (λ here. option_map (λ rest. Some (x, rest)) here otherwise first_opening words (drop (i + 1) xs) text) (sym none))

pub opening_here : {X : Type 0} (words : X → List ℕ) (xs : List X) (i : ℕ) (x : X) (text rest : List ℕ) → i < length xs → x ≡ get_or xs i x → Some rest ≡ behind (words x) text
    → Some (x, rest) ≡ first_opening words (drop i xs) text
opening_here words xs i x text rest inside is found =
    let cut : drop i xs ≡ x ∷ drop (i + 1) xs = from_here xs i x inside is in
    ap (λ here. option_map (λ rest. Some (x, rest)) here otherwise first_opening words (drop (i + 1) xs) text) found
    ∙ sym (ap (λ ys. first_opening words ys text) cut)
