-- What the proofs of other crates cite of this one. They cite nothing else of its proofs.

-- Lists by their places, and how many from the front pass a test.
pub use Rattle.board_ranks.proofs.ListPlaces.{get-same, all_push, take_next, count_one, count_next}
-- The cards of a suit of two sets, and how many they are.
pub use Rattle.board_ranks.proofs.SuitParts.{suit_fewer}
-- What own cards and a board are worth as a high, by ranks alone and as a flush, and as a low.
pub use Rattle.board_ranks.proofs.HighLaws.{board_is_five, high_parts, thin_suited, high_of_few, suited_again, same_plain, same_low}
-- The ranks of own cards and a board, as a call makes them.
pub use Rattle.board_ranks.proofs.FullBoards.{ranks_of_both}
-- What passes a test of a list and what doesn't, and so many of its front as it has.
pub use Rattle.board_ranks.proofs.SieveLists.{take_most, size_parts}
