-- The usual rules of low poker for five cards: which hand beats which.
use Rattle.std.specs.Prelude.{◌≡◌, ℕ, ◌<◌, ◌≤◌, ◌+◌, true, false, List, ◌∷◌, [], map, length, nat_le, is_some, ◌⊎◌}
use Rattle.std.specs.Cmp.Lexicographic.{slice_cmp}
use Rattle.std.specs.Ordering.{nat_cmp}
use Rattle.std.specs.declared.cmp.Ordering.TheVariants.{Less}
use Rattle.card_sets.specs.Cards.{IsCardSet}
use Rattle.rank_high.specs.High.{count_of_rank, is_flush, groups}
use Rattle.rank_high.specs.ByRanks.{falling, held}
use Rattle.rank_laws.specs.HighHands.{IsFive, AreFiveToAce, HaveSameRanks}
use Rattle.rank_low.specs.Low.{low_a5, low_27, low_groups, count_of_low, is_run, best_eight}

-- the first five are the better ace-to-five low
abbrev pub BeatsLow : List ℕ → List ℕ → Type 0
BeatsLow a b = slice_cmp nat_cmp (low_a5 a) (low_a5 b) ≡ Less

-- the first five are the better deuce-to-seven low
abbrev pub BeatsDeuce : List ℕ → List ℕ → Type 0
BeatsDeuce a b = slice_cmp nat_cmp (low_27 a) (low_27 b) ≡ Less

-- no two cards have the same rank
abbrev pub HasNoPair : List ℕ → Type 0
HasNoPair five = (rank : ℕ) → rank < 13 → count_of_rank five rank ≤ 1

-- two cards or more have the rank
abbrev pub HasPair : List ℕ → ℕ → Type 0
HasPair five rank = (rank < 13) × (2 ≤ count_of_rank five rank)

-- five, four, three, deuce, and ace are the best ace-to-five low, of one suit or not
abbrev pub FiveToAceIsBest : Type 0
FiveToAceIsBest = (a b : List ℕ) → IsFive a → IsFive b → AreFiveToAce a → BeatsLow b a → ⊥

-- suits and straights don't count: fives with the same ranks are worth the same
abbrev pub RanksAloneCount : Type 0
RanksAloneCount = (a b : List ℕ) → IsFive a → IsFive b → ((rank : ℕ) → rank < 13 → count_of_rank a rank ≡ count_of_rank b rank) → low_a5 a ≡ low_a5 b

-- fives that are worth the same as an ace-to-five low have the same ranks
abbrev pub AceTiesHaveSameRanks : Type 0
AceTiesHaveSameRanks = (a b : List ℕ) → IsFive a → IsFive b → low_a5 a ≡ low_a5 b → HaveSameRanks a b

-- fives that are worth the same as a deuce-to-seven low have the same ranks, and both are a flush or neither
abbrev pub DeuceTiesHaveSameRanks : Type 0
DeuceTiesHaveSameRanks = (a b : List ℕ) → IsFive a → IsFive b → low_27 a ≡ low_27 b → HaveSameRanks a b × (is_flush a ≡ is_flush b)

-- five different ranks beat any five with a pair
abbrev pub NoPairBeatsPair : Type 0
NoPairBeatsPair = (a b : List ℕ) (rank : ℕ) → IsFive a → IsFive b → HasNoPair a → HasPair b rank → BeatsLow a b

-- the worth of five different ranks is their ranks alone, from the highest down, an ace 1, whether they are consecutive
-- or of one suit
abbrev pub StraightsDontCount : Type 0
StraightsDontCount = (five : List ℕ) → IsFive five → HasNoPair five → low_a5 five ≡ 1 ∷ 1 ∷ 1 ∷ 1 ∷ 1 ∷ map (λ r. r + 1) (low_groups five)

-- a seven, five, four, three, and deuce
abbrev pub AreSevenLow : List ℕ → Type 0
AreSevenLow five = (count_of_rank five 5 ≡ 1) × ((k : ℕ) → k < 4 → count_of_rank five k ≡ 1)

-- if they aren't of one suit, they are the best deuce-to-seven low
abbrev pub SevenLowIsBest : Type 0
SevenLowIsBest = (a b : List ℕ) → IsFive a → IsFive b → AreSevenLow a → is_flush a ≡ false → BeatsDeuce b a → ⊥

-- as a deuce-to-seven low five to ace is ace high, and no straight
abbrev pub FiveToAceIsAceHigh : Type 0
FiveToAceIsAceHigh = (five : List ℕ) → IsFive five → AreFiveToAce five → is_flush five ≡ false → low_27 five ≡ 0 ∷ 14 ∷ 5 ∷ 4 ∷ 3 ∷ 2 ∷ []

-- a straight or a flush loses to any five that have no pair and are neither
abbrev pub StraightsAndFlushesLose : Type 0
StraightsAndFlushesLose = (a b : List ℕ) → IsFive a → IsFive b → (is_run (groups a) ≡ true) ⊎ (is_flush a ≡ true)
    → HasNoPair b → is_run (groups b) ≡ false → is_flush b ≡ false → BeatsDeuce b a

-- the number of ranks from ace to eight that the cards have
abbrev pub low_ranks : List ℕ → ℕ
low_ranks cards = length (falling (held (count_of_low cards) 0) 8)

-- some five of the cards qualify exactly if the cards have five ranks of eight or below, the ace low
abbrev pub QualifyByRanks : Type 0
QualifyByRanks = (cards : List ℕ) → IsCardSet cards → is_some (best_eight cards) ≡ nat_le 5 (low_ranks cards)
