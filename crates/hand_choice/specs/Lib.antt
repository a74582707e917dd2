pub use Rattle.card_sets.specs.Cards
pub use Rattle.card_sets.specs.Games
pub mod AllowedFives
