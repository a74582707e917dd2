use Rattle.std.proofs.Common.{take, ap, ◌∙◌}
use Rattle.player_totals.specs.TotalsSeen.{seen_rows}
use Rattle.player_totals.proofs.NumberFacts.{rows_cut, seen_take}
use Rattle.player_totals.proofs.player_rows.Players.truncate.Goals as goal

pub invariant_of-self : goal.invariant_of-self
invariant_of-self g c = rows_cut c.self.inside.numbers c.args.count c.self.inside.rows.entries c.truncate.new.self.entries c.truncate.ensures.entries c.self.invariant c.truncate.ensures.unique

pub returns : goal.returns
returns g c = ap seen_rows c.truncate.ensures.entries ∙ seen_take c.args.count c.self.inside.rows.entries ∙ ap (take c.args.count) c.self.view_is
