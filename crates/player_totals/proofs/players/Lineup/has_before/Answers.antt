use Rattle.std.proofs.Common.{sym, ◌∙◌}
use Rattle.player_totals.proofs.LineupFacts.{found_before, named_none}
use Rattle.player_totals.proofs.players.Lineup.has_before.Goals as goal

pub returns-then-has_name_at : goal.returns-then-has_name_at
returns-then-has_name_at c =
    sym (found_before c.args.name.now c.args.self.now.names.now c.args.self.now.players c.args.place c.loop-earlier.earlier c.loop-earlier-test.true (sym c.has_name_at.ensures ∙ c.if-has_name_at.true))

pub loop-earlier-preserved : goal.loop-earlier-preserved
loop-earlier-preserved c =
    named_none c.args.name.now c.args.self.now.names.now c.args.self.now.players c.loop-earlier.earlier c.loop-earlier.invariant (sym c.has_name_at.ensures ∙ c.if-has_name_at.false)
