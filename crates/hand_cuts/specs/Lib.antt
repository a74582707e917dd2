pub use Rattle.line_text.specs.Lines
pub use Rattle.line_text.specs.Places
pub use Rattle.line_text.specs.Laws as LineLaws
pub use Rattle.history_text.specs.Headers
pub mod Units
pub mod ClosedBytes
pub mod Laws
pub mod CutterState
pub mod Cutters
pub mod Scans
pub mod Sound
