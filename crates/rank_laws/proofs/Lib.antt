pub mod UnbeatenFives
pub mod GroupsInOrder
pub mod HandCategories
pub mod Categories
pub mod Straights
pub mod BestLows
pub mod LowHands
pub mod SameRanks
