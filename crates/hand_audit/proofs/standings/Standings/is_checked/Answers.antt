use Rattle.std.proofs.Common.{◌∙◌, sym}
use Rattle.hand_audit.proofs.lemmas.splits.Winners.{checked_alone, checked_told}
use Rattle.hand_audit.proofs.standings.Standings.is_checked.Goals as goal

pub returns-then-is_alone : goal.returns-then-is_alone
returns-then-is_alone c s t = c.if-is_alone.true ∙ checked_alone s c.args.eligible (sym c.is_alone.ensures ∙ c.if-is_alone.true)

pub returns-else-is_alone : goal.returns-else-is_alone
returns-else-is_alone c s t = checked_told c.args.self.now s c.args.eligible c.are_known.result t (sym c.is_alone.ensures ∙ c.if-is_alone.false) c.are_known.ensures
