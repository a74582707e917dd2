-- The lemmas on the report that crates above may cite.

-- Names that are the same, and the players of some hands each once.
pub use Rattle.player_totals.proofs.CallerLemmas.{any_once, same_congr, same_name}
-- Sums with an equal term for each pot, and what a pot holds that holds what some seats got out of it.
pub use Rattle.even_luck.proofs.CallerLemmas.{got_shared, sums_same}
-- The equity of a deal that is counted is its count.
pub use Rattle.even_luck.proofs.CallerLemmas.{count_of}
