-- The groups of some cards are the ranks of the cards, in order.
use Rattle.std.proofs.Common.{◌≡◌, ℕ, suc, zero, ◌-◌, ◌+◌, ◌*◌, ◌≤◌, ◌<◌, ◌==◌, List, ◌++◌, ◌∷◌, [], refl, ◌∙◌, sym, arith, true, false, cond, inl, inr, max, ◌⊎◌}
use Rattle.std.specs.Prelude.{Contains, All, AllPairs}
use Rattle.std.proofs.lemmas.Bool.{cases_eq}
use Rattle.std.proofs.lemmas.List.Elements.{All-append, Contains-append_left, Contains-append_right}
use Rattle.card_sets.specs.Cards.{rank_of, IsCardSet, RisingFrom}
use Rattle.card_sets.specs.Rising.{IsCardSet-rising}
use Rattle.rank_high.specs.High.{groups, groups_counted, count_of_rank, ranks_below, ranks_counted}
use Rattle.rank_high.proofs.CountedRanks.{count_of_rank-cons}

-- a rank has four cards
count-left : (low rank : ℕ) (cards : List ℕ) → RisingFrom low cards → count_of_rank cards rank ≤ 4 * rank + 4 - max low (4 * rank)
count-left low rank [] r = omega arith
count-left low rank (x ∷ cards) r =
    let ih : count_of_rank cards rank ≤ 4 * rank + 4 - max (x + 1) (4 * rank) = count-left (x + 1) rank cards r.2 in
    elim (cases_eq (rank_of x) rank) [
      | inl same ↦
          let t : (rank_of x == rank) ≡ true = grind arith in
          let more : count_of_rank (x ∷ cards) rank ≡ 1 + count_of_rank cards rank = count_of_rank-cons x cards rank ∙ (rw t refl) in
          omega arith
      | inr other ↦
          let f : (rank_of x == rank) ≡ false = grind arith in
          let more : count_of_rank (x ∷ cards) rank ≡ 0 + count_of_rank cards rank = count_of_rank-cons x cards rank ∙ (rw f refl) in
          omega arith
    ]

pub count-most : (cards : List ℕ) (rank : ℕ) → IsCardSet cards → count_of_rank cards rank ≤ 4
count-most cards rank set = omega (arith, count-left 0 rank cards (IsCardSet-rising cards set))

pub contains_counted : (f : ℕ → ℕ) (size n rank : ℕ) → rank < n → f rank ≡ size → Contains (ranks_below f size n) rank
contains_counted f size zero rank h e = absurd (omega arith)
contains_counted f size (suc n) rank h e = elim (cases_eq rank n) [
  | inl same ↦
      let t : (f n == size) ≡ true = (rw (← same) (let u : (f rank == size) ≡ true = grind arith in u)) in
      rw t (0, omega arith, sym same)
  | inr ne ↦ Contains-append_right (cond (f n == size) (n ∷ []) []) (ranks_below f size n) rank (contains_counted f size n rank (omega arith) e)
]

-- each rank that is counted up to four times is in a group
pub grouped : (f : ℕ → ℕ) (rank : ℕ) → rank < 13 → 0 < f rank → f rank ≤ 4 → Contains (groups_counted f) rank
unfolding groups_counted ranks_counted
grouped f rank h some few = elim (cases_eq (f rank) 1) [
  | inl e ↦ Contains-append_right (ranks_below f 4 13 ++ ranks_below f 3 13 ++ ranks_below f 2 13) (ranks_below f 1 13) rank (contains_counted f 1 13 rank h e)
  | inr not_one ↦ Contains-append_left (ranks_below f 4 13 ++ ranks_below f 3 13 ++ ranks_below f 2 13) (ranks_below f 1 13) rank (elim (cases_eq (f rank) 2) [
    | inl e ↦ Contains-append_right (ranks_below f 4 13 ++ ranks_below f 3 13) (ranks_below f 2 13) rank (contains_counted f 2 13 rank h e)
    | inr not_two ↦ Contains-append_left (ranks_below f 4 13 ++ ranks_below f 3 13) (ranks_below f 2 13) rank (elim (cases_eq (f rank) 3) [
      | inl e ↦ Contains-append_right (ranks_below f 4 13) (ranks_below f 3 13) rank (contains_counted f 3 13 rank h e)
      | inr not_three ↦ Contains-append_left (ranks_below f 4 13) (ranks_below f 3 13) rank (contains_counted f 4 13 rank h (omega arith))
    ])
  ])
]
