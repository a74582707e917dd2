pub use Rattle.card_sets.specs.Games
pub use Rattle.share_fractions.specs.Round
pub mod Lines
pub mod Progress
pub mod Sheets
pub mod Seen
pub mod Numbers
pub mod SpotLines
