use Rattle.hand_audit.proofs.lemmas.lines.ReadHands.{ended_chips, no_chips}
use Rattle.std.proofs.Common.{◌∙◌, sym, subst}
use Rattle.hand_audit.specs.declared.hand.AuditState.{AuditState}
use Rattle.hand_audit.specs.SeatChips.{AreWithin}
use Rattle.hand_audit.proofs.read.ended_chips.Goals as goal

pub returns-in-Some : goal.returns-in-Some
returns-in-Some c first count all audit ends known = c.no_chips.ensures ∙ no_chips all first count c.args.hand.now _ audit ends c.in-Some.is known

pub returns-in-None : goal.returns-in-None
returns-in-None c first count all audit ends known = c.all_chips_on.ensures ∙ ended_chips all first count c.args.hand.now _ audit ends c.as_ref-state.ensures c.in-None.is known

pub all_chips_on-requires : goal.all_chips_on-requires
all_chips_on-requires c = record { within = subst (λ (x : AuditState). AreWithin x.replay) (sym c.as_ref-state.ensures) c.args.hand.now.within }
