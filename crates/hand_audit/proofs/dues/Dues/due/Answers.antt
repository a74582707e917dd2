use Rattle.std.proofs.Common.{◌≡◌, ap, ◌∙◌, arith}
use Rattle.hand_audit.specs.Parts.{units_of}
use Rattle.hand_audit.proofs.lemmas.splits.PaymentWalk.{units_within}
use Rattle.hand_audit.proofs.dues.Dues.due.Goals as goal

pub overflow_cast-result : goal.overflow_cast-result
overflow_cast-result c =
    let is : c.units_of.result ≡ units_of c.args.seat c.args.self.now.parts = c.units_of.ensures ∙ ap (units_of c.args.seat) c.items.ensures in
    let few = c.requires in
    omega (arith, is, few, units_within c.args.seat c.args.self.now.parts)
