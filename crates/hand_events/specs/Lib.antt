pub mod BetFaultNames
pub mod TextFaultNames
pub mod Names
pub mod Seated
pub mod MarkerCards
