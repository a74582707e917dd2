use Rattle.std.proofs.Common.{◌∙◌, ap, arith}
use Rattle.card_sets.specs.PlayerSets.{seats_in}
use Rattle.hand_audit.specs.AllIns.{known_with}
use Rattle.hand_verdict.specs.declared.verdicts.AllIn.TheVariants.{Known}
use Rattle.hand_audit.specs.PotSeats.{eligible_of}
use Rattle.hand_audit.proofs.lemmas.tables.PointTable.{unknown_at, known_at}
use Rattle.hand_audit.proofs.all_in.all_in_at.Goals as goal

pub returns-then-not-are_all_known : goal.returns-then-not-are_all_known
returns-then-not-are_all_known c = unknown_at c.args.point.now (eligible_of c.args.lines.now) (search (arith, c.are_all_known.ensures, c.if-not-are_all_known.true))

pub returns-in-Some : goal.returns-in-Some
returns-in-Some c =
    ap (λ seats. Known c.args.point.now.street seats c.in-Some.table) c.seats_of.ensures
    ∙ ap (known_with c.args.point.now.street (seats_in c.args.point.now.contenders)) c.in-Some.ensures
    ∙ known_at c.args.point.now (eligible_of c.args.lines.now) (search (arith, c.are_all_known.ensures, c.if-not-are_all_known.false))

pub returns-in-None : goal.returns-in-None
returns-in-None c =
    ap (known_with c.args.point.now.street (seats_in c.args.point.now.contenders)) c.in-None.ensures
    ∙ known_at c.args.point.now (eligible_of c.args.lines.now) (search (arith, c.are_all_known.ensures, c.if-not-are_all_known.false))
