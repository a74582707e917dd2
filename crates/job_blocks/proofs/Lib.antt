pub mod CallerLemmas
pub mod BlockLists
pub mod OnlyRunout
pub mod BlockSums
pub mod BlockTotals
