pub mod DrawLists
pub mod DrawPlanes
pub mod DrawSlots
pub mod DrawWinners
pub mod LowWinners
pub mod DrawOrders
pub mod DrawPairs
pub mod DrawLeaf
