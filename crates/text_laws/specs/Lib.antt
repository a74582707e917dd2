pub mod PlainLines
pub mod WrittenAmounts
pub mod WrittenLines
pub mod NameLaws
pub mod WrittenSpots
pub mod ItemHands
pub mod WrittenRanges
