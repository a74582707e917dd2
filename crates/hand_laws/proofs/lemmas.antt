-- Lemmas, in a folder for each law or group of laws that they serve.
pub mod pots
pub mod turns
pub mod cards
pub mod lines
pub mod chips
pub mod splits
pub mod pot_sums
pub mod nets
pub mod dues
pub mod all_ins
pub mod odd_units
