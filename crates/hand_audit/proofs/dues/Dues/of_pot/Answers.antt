use Rattle.hand_audit.proofs.lemmas.splits.PartDues.{dues_are}
use Rattle.hand_audit.proofs.dues.Dues.of_pot.Goals as goal

pub returns-clause-dues : goal.returns-clause-dues
returns-clause-dues c s t d = dues_are s c.args.eligible c.args.units _ _ _ (c.is_checked-checked.ensures s t) (c.count_parts.ensures s c.args.units t) (c.in_ok-parts.ensures.parts s t d)
