use Rattle.std.specs.Prelude.{length}
use Rattle.call_rows.proofs.rows.deals.+are_small.Given as goal

abbrev pub decreases-are_small : goal.decreases-are_small
decreases-are_small l = length l.sets.now
