-- The lemmas that other crates may cite.

-- What a line says is within its bounds, and its kind stands in the part that the line stands in.
pub use Rattle.history_text.proofs.Within.{stands, within}
-- A marker that a line says has as many cards as come with its street.
pub use Rattle.history_text.proofs.MarkerCards.{line_fits}
