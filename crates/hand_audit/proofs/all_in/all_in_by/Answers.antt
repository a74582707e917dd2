use Rattle.std.proofs.Common.{◌∙◌, ap, sym}
use Rattle.hand_audit.specs.AllIns.{all_in_at}
use Rattle.hand_audit.specs.PotSeats.{eligible_of}
use Rattle.hand_audit.proofs.lemmas.tables.PointTable.{all_in_point, no_point}
use Rattle.hand_audit.proofs.all_in.all_in_by.Goals as goal

pub returns-in-Some : goal.returns-in-Some
returns-in-Some c same =
    c.all_in_at.ensures ∙ ap (λ point. all_in_at point (eligible_of c.args.lines.now)) c.known_there.ensures
    ∙ all_in_point c.args.game c.args.replay.now c.in-Some.street c.args.lines.now (sym c.all_in_point.ensures ∙ c.in-Some.is) same

pub returns-in-None : goal.returns-in-None
returns-in-None c same = no_point c.args.game c.args.replay.now (sym c.all_in_point.ensures ∙ c.in-None.is)
