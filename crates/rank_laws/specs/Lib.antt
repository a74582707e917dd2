pub use Rattle.card_sets.specs.Cards
pub use Rattle.card_sets.specs.Choose
pub use Rattle.rank_high.specs.High
pub use Rattle.rank_high.specs.Parts
pub use Rattle.rank_low.specs.Low
pub mod OneSuit
pub mod HighHands
pub mod LowHands
