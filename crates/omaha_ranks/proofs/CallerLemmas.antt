-- What the proofs of other crates cite of this one. They cite nothing else of its proofs.

-- The best number of some fives.
pub use Rattle.omaha_ranks.proofs.BestNumbers.{highs, aces}
-- The numbers of the best of the fives of two own cards and three of the board, and of some of their cards.
pub use Rattle.omaha_ranks.proofs.BestFives.{placed-passing, few_own, few_board}
-- The best high of two own cards and three of the board is the best by ranks alone, or the best of one suit.
pub use Rattle.omaha_ranks.proofs.TwoParts.{ranks_or_a_suit, ranks_decide}
-- Own cards and boards with the same ranks have the same low.
pub use Rattle.omaha_ranks.proofs.LowRanks.{low_ranks_decide}
-- By ranks alone, and as a low, own cards are worth with a board what they are worth with the best three of its cards.
pub use Rattle.omaha_ranks.proofs.BestThrees.{placed-part, best_by_threes, threes_decide, low_threes_decide, no_low, some_low}
