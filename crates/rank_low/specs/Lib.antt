pub use Rattle.card_sets.specs.Cards
pub use Rattle.card_sets.specs.Choose
pub use Rattle.rank_high.specs.High
pub mod Low
pub mod Lowest
pub use Rattle.rank_high.specs.ByRanks
pub mod Wheel
