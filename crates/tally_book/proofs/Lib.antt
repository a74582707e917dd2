pub mod PartSets
pub mod MarkedBlocks
pub mod PageFacts
