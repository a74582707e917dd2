-- The ranks of a union are those of both together.
use Rattle.std.proofs.Common.{◌≡◌, ℕ, zero, suc, ◌+◌, List, [], ◌∷◌, refl, ap, arith, Bool, true, false, cond}
use Rattle.std.specs.Prelude.{◌||◌, ◌==◌}
use Rattle.std.specs.List.{count_by}
use Rattle.card_sets.specs.Cards.{IsCardSet, union, has_card, cards_where, cards_below, rank_of}
use Rattle.rank_high.specs.High.{count_of_rank}
use Rattle.std.proofs.lemmas.List.Sums.{sum_by-append}
use Rattle.card_sets.proofs.CallerLemmas.{Apart}

one-or : (t p q : Bool) (n : ℕ) → (p ≡ true → q ≡ true → ⊥) → count_by (λ c. t) (cond (p || q) (n ∷ []) []) ≡ count_by (λ c. t) (cond p (n ∷ []) []) + count_by (λ c. t) (cond q (n ∷ []) [])
one-or t true true n h = absurd (h refl refl)
one-or t true false n h = omega arith
one-or t false true n h = omega arith
one-or t false false n h = refl

one-at : (t : ℕ → Bool) (b : Bool) (n : ℕ) → count_by t (cond b (n ∷ []) []) ≡ count_by (λ c. t n) (cond b (n ∷ []) [])
one-at t true n = refl
one-at t false n = refl

count-or : (t p q : ℕ → Bool) (n : ℕ) → ((k : ℕ) → p k ≡ true → q k ≡ true → ⊥) → count_by t (cards_below (λ k. p k || q k) n) ≡ count_by t (cards_below p n) + count_by t (cards_below q n)
count-or t p q zero h = refl
count-or t p q (suc n) h =
    omega (
      arith,
      count-or t p q n h,
      one-or (t n) (p n) (q n) n (h n),
      one-at t (p n || q n) n,
      one-at t (p n) n,
      one-at t (q n) n,
      sum_by-append (λ c. cond (t c) 1 0) (cards_below (λ k. p k || q k) n) (cond (p n || q n) (n ∷ []) []),
      sum_by-append (λ c. cond (t c) 1 0) (cards_below p n) (cond (p n) (n ∷ []) []),
      sum_by-append (λ c. cond (t c) 1 0) (cards_below q n) (cond (q n) (n ∷ []) []),
    )

-- the ranks of a union are those of both together
pub count-union : (a b : List ℕ) (rank : ℕ) → IsCardSet a → IsCardSet b → Apart a b → count_of_rank (union a b) rank ≡ count_of_rank a rank + count_of_rank b rank
unfolding cards_where
count-union a b rank x y h = omega (arith, count-or (λ c. rank_of c == rank) (has_card a) (has_card b) 52 h, ap (λ l. count_of_rank l rank) x, ap (λ l. count_of_rank l rank) y)
