use Rattle.std.proofs.Common.{sym, ◌∙◌}
use Rattle.hand_audit.proofs.lemmas.splits.SideShares.{none_win}
use Rattle.hand_audit.proofs.parts.add_side.Goals as goal

pub returns-then-bits-eq0-clause-parts : goal.returns-then-bits-eq0-clause-parts
returns-then-bits-eq0-clause-parts c = none_win c.args.board c.args.winners c.args.units c.args.side c.args.order.now c.args.all.now.items (sym c.bits.ensures ∙ c.if-bits-eq0.true)
