-- The table of an all-in: what makes one.
pub mod TableFacts
pub mod EligibleHands
pub mod PointTable
pub mod SettlementPots
pub mod FewPots
