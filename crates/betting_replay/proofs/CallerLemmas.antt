-- The lemmas of this crate that proofs of other crates may cite.

-- What a list by seats has at a seat is what it was made of. So a table has there what the events make of the seat's chips and acts.
pub use Rattle.betting_replay.proofs.lemmas.seats.SeatLists.{at_by_seat}
pub use Rattle.betting_replay.proofs.lemmas.seats.SeatStates.{chips_are, acts_are}
-- A step that answers `Ok` found no fault. Then the event passed each test, and none of them failed. Its seat is below 11.
pub use Rattle.betting_replay.proofs.lemmas.steps.PassedTests.{no_fault, not_failed, passed}
pub use Rattle.betting_replay.proofs.lemmas.steps.NextTable.{none_told, seat_below}
pub use Rattle.betting_replay.proofs.lemmas.chips.AffordedChips.{not_not}
-- A remark fails no test, and leaves the table as it is.
pub use Rattle.betting_replay.proofs.lemmas.steps.RemarkSteps.{remark_kept, remark_stands}
-- Accepted events keep each seat's chips.
pub use Rattle.betting_replay.proofs.lemmas.chips.ChipsStay.{chips_stay}
-- Where a walk over seats finds nobody, nobody passes its test. Who is a contender at a table, and one that still is.
pub use Rattle.betting_replay.proofs.lemmas.turns.SeatWalk.{none_from}
pub use Rattle.betting_replay.proofs.lemmas.streets.EndedHands.{contender_is, still_in}
-- A game with a board has no draw, and so no discard begins a street; after a showdown or the summary no street comes. In a game with one draw a hand is five cards.
pub use Rattle.betting_replay.proofs.lemmas.streets.GameFamilies.{five_own, no_draw, none_after_end, none_begun}
-- Streets that `is_street` finds the same are one. A marker that was accepted may stand. That of a street is the next on its board, and where none comes next none stands.
pub use Rattle.betting_replay.proofs.lemmas.places.DeadCards.{street_is, marker_of}
pub use Rattle.betting_replay.proofs.lemmas.boards.TwoBoards.{never_none, stands_on}
-- A hand that is run twice has a board. A second board comes, and a street next on it, only in such a hand. A point that was found stays.
pub use Rattle.betting_replay.proofs.lemmas.boards.TwoBoards.{point_kept, second_needs, second_runs, twice_board}
-- How far the boards of accepted events have come, and what a second board is.
pub use Rattle.betting_replay.proofs.lemmas.boards.BegunStreets.{begun_later, is_before}
pub use Rattle.betting_replay.proofs.lemmas.boards.BoardProgress.{reached}
pub use Rattle.betting_replay.proofs.lemmas.boards.BoardLaws.{second_is}
-- Parts of sets that share no card share none.
pub use Rattle.betting_replay.proofs.lemmas.places.AmongSets.{apart_among}
-- A card has one place. The cards of a board, of its streets and of a second board belong to it, and those that a seat was given to the seat.
pub use Rattle.betting_replay.proofs.lemmas.places.CardsBelong.{before_among, board_among, given_among, no_card, one_place, second_among, shared_among}
-- Cards that were thrown away are a set. Where none may come again no event names or loses one, and nobody shows one; where one may, it is nobody's.
pub use Rattle.betting_replay.proofs.lemmas.places.CardSets.{thrown_set}
pub use Rattle.betting_replay.proofs.lemmas.places.NextPlaces.{nothing_lost}
pub use Rattle.betting_replay.proofs.lemmas.places.DeadCards.{named_new, shown_not_thrown, thrown_nobody}
-- Final cards and shown hands belong to their seat, and are whole hands.
pub use Rattle.betting_replay.proofs.lemmas.known.KnownCards.{final_holds, if_many_is, shown_holds}
