-- Ranks by how often they are counted, each as its card of the first suit.
use Rattle.std.specs.Prelude.{◌≡◌, ℕ, ◌+◌, ◌/◌, ◌%◌, ◌==◌, ◌&&◌, if◌then◌else◌, List, nat_lt}
use Rattle.card_sets.specs.Cards.{cards_where}
use Rattle.card_sets.specs.declared.sets.ByRank.{ByRank}

-- the ranks that are counted more than n times
abbrev pub counted_over : ℕ → (ℕ → ℕ) → List ℕ
counted_over n count = cards_where (λ k. (k % 4 == 0) && nat_lt n (count (k / 4)))

-- the ranks that are counted at least once, twice, three times, and four times
pub record AreCounted (ranks : ByRank) (count : ℕ → ℕ) : Type 0 where
  pub one : ranks.one ≡ counted_over 0 count
  pub two : ranks.two ≡ counted_over 1 count
  pub three : ranks.three ≡ counted_over 2 count
  pub four : ranks.four ≡ counted_over 3 count

-- the counts with one more of a rank
abbrev pub one_more : ℕ → (ℕ → ℕ) → ℕ → ℕ
one_more rank count r = count r + (if rank == r then 1 else 0)
