-- The lemmas on players and their sums that crates above may cite.

-- Names that are the same, and the players of some hands each once.
pub use Rattle.player_totals.proofs.NameFacts.{same_congr, same_name}
pub use Rattle.player_totals.proofs.RunFacts.{any_once}
