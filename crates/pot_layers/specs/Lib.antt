pub mod Pots
pub mod Uncalled
pub mod Split
pub mod Eligible
