pub mod BlockSums
pub mod BlockWeights
pub mod NumberRanges
pub mod AnyOrder
pub mod RunEvents
