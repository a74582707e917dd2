pub mod BalanceLaws
pub mod EvenLaws
pub mod ExpectLaws
pub mod KnownSettles
pub mod ReadBack
pub mod SettleLaws
pub mod TotalLaws
