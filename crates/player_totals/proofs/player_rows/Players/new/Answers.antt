use Rattle.std.proofs.Common.{subst, sym}
use Rattle.player_totals.specs.TotalsSeen.{AreRows}
use Rattle.player_totals.proofs.NumberFacts.{no_rows}
use Rattle.player_totals.proofs.player_rows.Players.new.Goals as goal

pub invariant_of-result : goal.invariant_of-result
invariant_of-result g c = subst (AreRows c.new-2.result) (sym c.new.ensures.empty) (no_rows c.new-2.result c.new-2.ensures.empty)
