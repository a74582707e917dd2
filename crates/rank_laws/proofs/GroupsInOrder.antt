-- The groups of some cards are the ranks of the cards, each once, larger groups first and then higher ranks.
use Rattle.std.proofs.Common.{◌≡◌, ℕ, suc, zero, ◌+◌, ◌<◌, ◌==◌, List, ◌++◌, ◌∷◌, [], ◌∙◌, sym, arith, true, false, cond, inl, inr, ◌⊎◌}
use Rattle.std.specs.Prelude.{All, AllPairs}
use Rattle.std.proofs.lemmas.Bool.{cases_eq}
use Rattle.std.proofs.lemmas.List.Elements.{All-append}
use Rattle.card_sets.specs.Cards.{IsCardSet}
use Rattle.rank_high.specs.High.{groups, groups_counted, count_of_rank, ranks_below, ranks_counted}
use Rattle.rank_laws.specs.HighHands.{ComesBefore, AreRanksInOrder}
use Rattle.rank_high.proofs.CallerLemmas.{count-most, grouped}

All-one : (P : ℕ → Type 0) (n : ℕ) → P n → All P (n ∷ [])
All-one P n p zero d h = p
All-one P n p (suc k) d h = absurd (omega arith)

All-none : (P : ℕ → Type 0) → All P []
All-none P k d h = absurd (omega arith)

-- a rank is below n and counted so many times
abbrev pub IsCounted : (ℕ → ℕ) → ℕ → ℕ → ℕ → Type 0
IsCounted f size n rank = (rank < n) × (f rank ≡ size)

-- each rank of a list is
pub are_counted : (f : ℕ → ℕ) (size n : ℕ) → All (IsCounted f size n) (ranks_below f size n)
are_counted f size zero = All-none (IsCounted f size zero)
are_counted f size (suc n) = All-append (IsCounted f size (suc n)) (cond (f n == size) (n ∷ []) []) (ranks_below f size n) first (λ k d h. let rest = are_counted f size n k d h in (omega arith, rest.1))
  where
    first : All (IsCounted f size (suc n)) (cond (f n == size) (n ∷ []) [])
    first = elim (cases_eq (f n) size) [
      | inl e ↦ (let t : (f n == size) ≡ true = grind arith in rw t (All-one (IsCounted f size (suc n)) n (omega arith, e)))
      | inr ne ↦ (let u : (f n == size) ≡ false = grind arith in rw u (All-none (IsCounted f size (suc n))))
    ]

-- each is before all after it
abbrev Pairs : (ℕ → ℕ → Type 0) → List ℕ → Type 0
Pairs R [] = Unit {0}
Pairs R (x ∷ xs) = All (R x) xs × Pairs R xs

Pairs-append : (R : ℕ → ℕ → Type 0) (xs ys : List ℕ) → Pairs R xs → Pairs R ys → All (λ x. All (R x) ys) xs → Pairs R (xs ++ ys)
Pairs-append R [] ys p q r = q
Pairs-append R (x ∷ xs) ys p q r =
    (All-append (R x) xs ys p.0 (r 0 x (omega arith)), Pairs-append R xs ys p.1 q (λ k d h. r (suc k) d (omega arith)))

AllPairs-pairs : (R : ℕ → ℕ → Type 0) (xs : List ℕ) → Pairs R xs → AllPairs R xs
AllPairs-pairs R [] p i j d h l = absurd (omega arith)
AllPairs-pairs R (x ∷ xs) p i zero d h l = absurd (omega arith)
AllPairs-pairs R (x ∷ xs) p zero (suc j) d h l = p.0 j d (omega arith)
AllPairs-pairs R (x ∷ xs) p (suc i) (suc j) d h l = AllPairs-pairs R xs p.1 i j d (omega arith) (omega arith)

abbrev Before : (ℕ → ℕ) → ℕ → ℕ → Type 0
Before f r s = (f s < f r) ⊎ ((f r ≡ f s) × (s < r))

pairs_below : (f : ℕ → ℕ) (size n : ℕ) → Pairs (Before f) (ranks_below f size n)
pairs_below f size zero = tt
pairs_below f size (suc n) = elim (cases_eq (f n) size) [
  | inl e ↦
      let t : (f n == size) ≡ true = grind arith in
      rw t (λ k d h. let rest = are_counted f size n k d h in inr (e ∙ sym rest.1, rest.0), pairs_below f size n)
  | inr ne ↦ (let u : (f n == size) ≡ false = grind arith in rw u (pairs_below f size n))
]

-- the ranks of a size after those of larger groups
size_behind : (f : ℕ → ℕ) (size : ℕ) (larger : List ℕ) → Pairs (Before f) larger → All (λ rank. (rank < 13) × (size < f rank)) larger
    → Pairs (Before f) (larger ++ ranks_below f size 13) × All (λ rank. (rank < 13) × (size < f rank + 1)) (larger ++ ranks_below f size 13)
size_behind f size larger p q = (
  Pairs-append (Before f) larger (ranks_below f size 13) p (pairs_below f size 13) (λ k d h i e j. let a = q k d h in let b = are_counted f size 13 i e j in inl (omega arith)),
  All-append (λ rank. (rank < 13) × (size < f rank + 1)) larger (ranks_below f size 13) (λ k d h. let a = q k d h in (a.0, omega arith)) (λ k d h. let b = are_counted f size 13 k d h in (b.0, omega arith)),
)

-- the groups are in order, and each rank of theirs is counted
in_order : (f : ℕ → ℕ) → Pairs (Before f) (groups_counted f) × All (λ rank. (rank < 13) × (1 < f rank + 1)) (groups_counted f)
unfolding groups_counted ranks_counted
in_order f =
    let fours = size_behind f 4 [] tt (All-none (λ rank. (rank < 13) × (4 < f rank))) in
    let threes = size_behind f 3 (ranks_below f 4 13) fours.0 (λ k d h. let a = fours.1 k d h in (a.0, omega arith)) in
    let pairs = size_behind f 2 (ranks_below f 4 13 ++ ranks_below f 3 13) threes.0 (λ k d h. let a = threes.1 k d h in (a.0, omega arith)) in
    size_behind f 1 (ranks_below f 4 13 ++ ranks_below f 3 13 ++ ranks_below f 2 13) pairs.0 (λ k d h. let a = pairs.1 k d h in (a.0, omega arith))

pub groups-AreRanksInOrder : (cards : List ℕ) → IsCardSet cards → AreRanksInOrder cards (groups cards)
groups-AreRanksInOrder cards set =
    let all = in_order (count_of_rank cards) in
    record {
      thirteen = λ k d h. let a = all.1 k d h in a.0;
      held = λ rank h some. grouped (count_of_rank cards) rank h some (count-most cards rank set);
      of_cards = λ k d h. let a = all.1 k d h in omega arith;
      in_order = AllPairs-pairs (ComesBefore cards) (groups cards) all.0;
    }
