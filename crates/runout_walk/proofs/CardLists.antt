-- Cards in lists, and choices of one card and of two.
use Rattle.std.proofs.Common.{◌≡◌, ℕ, zero, suc, ◌+◌, ◌<◌, ◌≤◌, ◌||◌, Bool, true, false, List, [], ◌∷◌, ◌++◌, length, length-append, map, take, refl, sym, ap, ◌∙◌, arith, append_assoc, set, None}
use Rattle.std.specs.Prelude.{slice_get}
use Rattle.std.proofs.lemmas.List.{length-map, take_more_set}
use Rattle.card_sets.specs.Bits.{cards_where_same}
use Rattle.card_sets.specs.Cards.{has_card, union, IsCardSet}
use Rattle.card_sets.specs.Choose.{choose}
use Rattle.runout_ranges.specs.Ways.{binomial}
use Rattle.runout_walk.proofs.ListingRanges.{map-map}

-- one card more in a list
pub put_card : (cards all rest left : List ℕ) (used card : ℕ) → used < length cards → rest ≡ card ∷ left → take used cards ++ rest ≡ all → take (used + 1) (set cards used card) ++ left ≡ all
put_card cards all rest left used card inside first e =
    ap (λ l. l ++ left) (take_more_set cards used card inside) ∙ append_assoc (take used cards) (card ∷ []) left ∙ ap (λ l. take used cards ++ l) (sym first) ∙ e

-- no first card, so none
pub none_there : (cards : List ℕ) → slice_get cards 0 ≡ None → cards ≡ []
none_there [] h = refl
none_there (c ∷ cards) h = cc

or_none : (b : Bool) → (b || false) ≡ b
or_none true = refl
or_none false = refl

-- a set and no cards
pub union-none : (a : List ℕ) → IsCardSet a → union a [] ≡ a
union-none a set = cards_where_same _ _ (λ k h. or_none (has_card a k)) ∙ set

-- the choices of one card
pub choose-one : (xs : List ℕ) → choose 1 xs ≡ map (λ x. x ∷ []) xs
choose-one [] = refl
choose-one (x ∷ xs) = ap (λ l. (x ∷ []) ∷ l) (choose-one xs)

pub one_length : (xs : List ℕ) → length (choose 1 xs) ≡ length xs
one_length xs = ap length (choose-one xs) ∙ length-map xs (λ x. x ∷ [])

-- the choices of two with the first card, and those without it
pub two-first : (low : ℕ) (others : List ℕ) → choose 2 (low ∷ others) ≡ map (λ high. low ∷ high ∷ []) others ++ choose 2 others
two-first low others = ap (λ l. l ++ choose 2 others) (ap (λ l. map (λ rest. low ∷ rest) l) (choose-one others) ∙ map-map (λ rest. low ∷ rest) (λ x. x ∷ []) others)

pub two-first-length : (low : ℕ) (rest others : List ℕ) → rest ≡ low ∷ others → length (choose 2 rest) ≡ length others + length (choose 2 others)
two-first-length low rest others first =
    ap (λ l. length (choose 2 l)) first ∙ ap length (two-first low others) ∙ length-append (map (λ high. low ∷ high ∷ []) others) (choose 2 others) ∙ ap (λ n. n + length (choose 2 others)) (length-map others (λ high. low ∷ high ∷ []))

-- more cards have no fewer choices
pub grows : (n m k : ℕ) → binomial n k ≤ binomial (n + m) k
grows n zero k = let z : n + 0 ≡ n = omega arith in rw z (omega arith)
grows n (suc m) zero = omega arith
grows n (suc m) (suc k) =
    let s : n + suc m ≡ suc (n + m) = omega arith in
    let ih : binomial n (suc k) ≤ binomial (n + m) (suc k) = grows n m (suc k) in
    rw s (omega arith)
