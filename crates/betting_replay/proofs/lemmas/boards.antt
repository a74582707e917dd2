-- For `law_whole_boards`: how far a board has come, and what two boards share.
pub mod BegunStreets
pub mod BoardGrowth
pub mod BoardLaws
pub mod BoardProgress
pub mod BoardSizes
pub mod SecondBoardCards
pub mod TwoBoards
