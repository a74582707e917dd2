-- What the proofs of other crates cite of this one. They cite nothing else of its proofs.

-- Ranks of some cards, from the ace up.
pub use Rattle.rank_low.proofs.LowCounts.{high_rank, low-high, length-map_low}
-- What the list of an ace-to-five low has, and its number.
pub use Rattle.rank_low.proofs.AceLists.{IsAceList, ace-order}
-- The list of five cards as an ace-to-five low has one of six shapes.
pub use Rattle.rank_low.proofs.AceShapes.{low_a5-IsAceList, set-FewOfEach}
pub use Rattle.rank_low.proofs.AceShapes.{five_single, five_sizes, flat-number, fours, paired-number, pairs, sizes-groups, threes}
-- The least of some lists by the greatest of their numbers turned round.
pub use Rattle.rank_low.proofs.TurnedNumbers.{turned, ace_turned, AreAceLists, ace_number-lt, least_of-IsLeast, from_turned}
-- The five lowest ranks of some cards are the best ace-to-five low.
pub use Rattle.rank_low.proofs.LowestFive.{five_turned, groups-fall, low_digits-lt, lowest-least}
-- What the code makes of counts and groups.
pub use Rattle.rank_low.proofs.CountsAndGroups.{low_27-IsHighList}
-- The numbers of the best lows of five cards or more.
pub use Rattle.rank_low.proofs.BestFive.{some-choice, eight_turned, greatest-filter, AreAceLists-filter, eight-AreAceLists, qualifies-is, some_of}
pub use Rattle.rank_low.proofs.BestFive.{least-IsAceList, eight-is, eight-none}
-- The least of some lows with cards that are taken.
pub use Rattle.rank_low.proofs.BestLow.{with_taken-AreAceLists}
