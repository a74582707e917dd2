-- What the proofs of other crates cite of this one. They cite nothing else of its proofs.

-- Ranks by how often they are counted.
pub use Rattle.rank_high.proofs.CountedRanks.{ranks_counted-same, groups_counted-same, total, total-same, count_of_rank-cons, total-cards, group_sizes}
pub use Rattle.rank_high.proofs.CountedRanks.{length-groups_counted, length-groups, AreBelow, AreBelow-groups_counted, each_below, each_group}
pub use Rattle.rank_high.proofs.CountedRanks.{few_groups, few_pairs, one_more, none_counted}
-- The number of a high hand's list keeps the order of the lists.
pub use Rattle.rank_high.proofs.ValueOrder.{AreDigits, digits_from-lt, first_less, digits_order, IsHighList, value_of-order, AreDigits-map, length-map_two}
pub use Rattle.rank_high.proofs.ValueOrder.{category_of-le, high-IsHighList, value_of-lt}
-- The best of some fives, chosen card by card.
pub use Rattle.rank_high.proofs.BestByChoice.{AreHighLists, value_of-none, greatest_of-IsHighList, value_of-greatest_of, max-not_less, max-less}
pub use Rattle.rank_high.proofs.BestByChoice.{best_high-five, AreHighLists-map, HaveLength-choose, alone, fives, best_high-IsHighList}
-- Cards of one suit, and what a category goes by.
pub use Rattle.rank_high.proofs.HandCategories.{one_suit, next_falls, pips_plain, pips_wheel, wheel_ranks}
-- The groups of some cards are the ranks of the cards, in order.
pub use Rattle.rank_high.proofs.GroupsInOrder.{count-most, contains_counted, grouped}
-- The best five of some cards are the best by their ranks alone, or the best of one suit.
pub use Rattle.rank_high.proofs.RanksOrSuit.{plain_high-IsHighList, number, plain_number, best_high-number, best_plain-number, plain-small, plain-less}
pub use Rattle.rank_high.proofs.RanksOrSuit.{plain-same, flush_suit, one_of_four, best_high-IsByRanksOrSuit, suited-short}
-- The ranks of some cards in order, and what they decide.
pub use Rattle.rank_high.proofs.RankLists.{times, times-ranks, same-rank_lists, ranks_decide}
-- Falling lists of ranks that pass a test, and the digits of their numbers.
pub use Rattle.rank_high.proofs.FallingRanks.{Falls, Falls-wider, Falls-falling, falling-same}
-- What five cards are worth by their ranks alone, shape by shape: each shape that the counts allow is made by some five.
pub use Rattle.rank_high.proofs.ReachedShapes.{InDeck, InDeck-rising, InDeck-part, total-all, count-part, sizes-all, falls_counted, pick, pick-part, weights}
pub use Rattle.rank_high.proofs.ReachedShapes.{Allowed, weights-which, weights-total, weights-listed, picked}
-- The best five of cards of one suit, from what they would be worth if there were no flushes.
pub use Rattle.rank_high.proofs.OneSuit.{no_group, flush_category, as_flush-low, as_flush-high, best_of_suit}
-- The ranks of a union are those of both together.
pub use Rattle.rank_high.proofs.UnionRanks.{count-union}
