-- The lemmas on equities, and on what seats got, that crates above may cite.

-- Figures that agree, as those of a tally of all runouts and of the full listing do, give a hand as much.
pub use Rattle.even_luck.proofs.TallyFacts.{Agree, Agree-full, given_same, expected_full}
-- A tally of all runouts gives a hand no more than the whole pot for each runout.
pub use Rattle.even_luck.proofs.TallyFacts.{few_units}
-- Where enough cards may come there is a runout, and else none.
pub use Rattle.even_luck.proofs.CountedFacts.{no_runout_left, some_runout}
-- An all-in is counted where its tally has a runout, and not where it has none or is refused; the equity of one that is counted is its
-- count. The equity of a deal was asked for.
pub use Rattle.even_luck.proofs.CountedFacts.{asked_of, count_of, counted_none, counted_refused, counted_some}
-- Sums with an equal term for each pot, and what a pot holds that holds what some seats got out of it.
pub use Rattle.even_luck.proofs.EvenFacts.{got_shared}
pub use Rattle.even_luck.proofs.SumsBelow.{sums_same}
