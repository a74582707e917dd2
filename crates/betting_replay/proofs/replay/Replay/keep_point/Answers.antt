use Rattle.std.proofs.Common.{sym, ◌∙◌}
use Rattle.betting_replay.proofs.lemmas.points.FirstPoint.{point_stays}
use Rattle.betting_replay.proofs.replay.Replay.keep_point.Goals as goal

pub returns-else-awaits_point : goal.returns-else-awaits_point
returns-else-awaits_point c = point_stays c.args.self.now (sym c.awaits_point.ensures ∙ c.if-awaits_point.false)
