pub use Rattle.line_text.specs.Amounts
pub mod Command
pub mod CommandLine
