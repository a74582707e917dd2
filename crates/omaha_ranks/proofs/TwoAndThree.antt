-- The greatest number of two members of one list with three of another.
use Rattle.std.proofs.Common.{◌≡◌, ℕ, ◌≤◌, List, ◌∷◌, [], refl, ap, ◌∙◌, arith, length, map, max}
use Rattle.std.specs.List.{flat_map}
use Rattle.std.proofs.lemmas.List.{map-append}
use Rattle.card_sets.specs.Cards.{union}
use Rattle.card_sets.specs.Choose.{choose}
use Rattle.card_sets.proofs.CallerLemmas.{greatest, greatest-append, IsPart, greatest_most, greatest_least}
use Rattle.omaha_ranks.specs.Omaha.{fives}

map_map : (f : List ℕ → ℕ) (g : List ℕ → List ℕ) (ls : List (List ℕ)) → map f (map g ls) ≡ map (λ l. f (g l)) ls
map_map f g [] = refl
map_map f g (l ∷ ls) = ap (λ ns. f (g l) ∷ ns) (map_map f g ls)

-- the greatest number with each two
abbrev pub with_two : (List ℕ → ℕ) → List ℕ → List ℕ → ℕ
with_two f board two = greatest (map (λ three. f (union two three)) (choose 3 board))

pub greatest-flat : (f : List ℕ → ℕ) (board : List ℕ) (twos : List (List ℕ)) → greatest (map f (flat_map (λ two. map (λ three. union two three) (choose 3 board)) twos)) ≡ greatest (map (with_two f board) twos)
greatest-flat f board [] = refl
greatest-flat f board (two ∷ twos) =
    ap greatest (map-append f (map (λ three. union two three) (choose 3 board)) (flat_map (λ two. map (λ three. union two three) (choose 3 board)) twos))
    ∙ greatest-append (map f (map (λ three. union two three) (choose 3 board))) (map f (flat_map (λ two. map (λ three. union two three) (choose 3 board)) twos))
    ∙ ap (λ ns. max (greatest ns) (greatest (map f (flat_map (λ two. map (λ three. union two three) (choose 3 board)) twos)))) (map_map f (λ three. union two three) (choose 3 board))
    ∙ ap (λ n. max (with_two f board two) n) (greatest-flat f board twos)

-- two own cards and three of the board
pub record AreTwoAndThree (own board two three : List ℕ) : Type 0 where
  pub two_cards : length two ≡ 2
  pub of_own : IsPart two own
  pub three_cards : length three ≡ 3
  pub of_board : IsPart three board

-- no five have a greater number than the bound of all
pub allowed_most : (own board : List ℕ) (f : List ℕ → ℕ) (most : ℕ) → ((two three : List ℕ) → AreTwoAndThree own board two three → f (union two three) ≤ most) → greatest (map f (fives own board)) ≤ most
allowed_most own board f most h =
    let all : greatest (map (with_two f board) (choose 2 own)) ≤ most =
    greatest_most 2 own (with_two f board) most (λ two e p. greatest_most 3 board (λ three. f (union two three)) most (λ three d q. h two three (record { two_cards = e; of_own = p; three_cards = d; of_board = q }))) in
    omega (arith, greatest-flat f board (choose 2 own))

-- each five have at most the greatest number
pub allowed_least : (own board : List ℕ) (f : List ℕ → ℕ) (two three : List ℕ) → AreTwoAndThree own board two three → f (union two three) ≤ greatest (map f (fives own board))
allowed_least own board f two three a =
    let inner : f (union two three) ≤ with_two f board two = greatest_least 3 board (λ three. f (union two three)) three a.three_cards a.of_board in
    let outer : with_two f board two ≤ greatest (map (with_two f board) (choose 2 own)) = greatest_least 2 own (with_two f board) two a.two_cards a.of_own in
    omega (arith, greatest-flat f board (choose 2 own))
