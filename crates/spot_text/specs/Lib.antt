pub mod Words
pub mod Parts
pub mod Games
pub mod Spot
pub mod Sections
pub mod Fronts
pub mod Collected
pub mod FaultNames
