use Rattle.hand_cuts.specs.declared.units.CutKind.TheVariants.{Hands, Lines}
use Rattle.hand_cuts.specs.declared.limits.TheConstants.{INPUT_MAX}
use Rattle.hand_cuts.proofs.CutterSteps.{told, small_line}
use Rattle.hand_cuts.proofs.cutter.Cutter.next_unit.Goals as goal

pub returns-in-Hands-clause-none : goal.returns-in-Hands-clause-none
returns-in-Hands-clause-none c = (told c.self.inside c.args.self.now c.cut_hand.new.scan c.cut_hand.result Hands c.deref.result.now c.self.view_is c.in-Hands.is c.deref.ensures.value c.cut_hand.ensures.none c.cut_hand.ensures.some).none

pub returns-in-Hands-clause-same : goal.returns-in-Hands-clause-same
returns-in-Hands-clause-same c = (told c.self.inside c.args.self.now c.cut_hand.new.scan c.cut_hand.result Hands c.deref.result.now c.self.view_is c.in-Hands.is c.deref.ensures.value c.cut_hand.ensures.none c.cut_hand.ensures.some).same

pub returns-in-Hands-clause-some : goal.returns-in-Hands-clause-some
returns-in-Hands-clause-some c = (told c.self.inside c.args.self.now c.cut_hand.new.scan c.cut_hand.result Hands c.deref.result.now c.self.view_is c.in-Hands.is c.deref.ensures.value c.cut_hand.ensures.none c.cut_hand.ensures.some).some

pub returns-in-Lines-clause-none : goal.returns-in-Lines-clause-none
returns-in-Lines-clause-none c = (told c.self.inside c.args.self.now c.cut_line.new.scan c.cut_line.result Lines c.deref-in-Lines.result.now c.self.view_is c.in-Lines.is c.deref-in-Lines.ensures.value c.cut_line.ensures.none c.cut_line.ensures.some).none

pub returns-in-Lines-clause-same : goal.returns-in-Lines-clause-same
returns-in-Lines-clause-same c = (told c.self.inside c.args.self.now c.cut_line.new.scan c.cut_line.result Lines c.deref-in-Lines.result.now c.self.view_is c.in-Lines.is c.deref-in-Lines.ensures.value c.cut_line.ensures.none c.cut_line.ensures.some).same

pub returns-in-Lines-clause-some : goal.returns-in-Lines-clause-some
returns-in-Lines-clause-some c = (told c.self.inside c.args.self.now c.cut_line.new.scan c.cut_line.result Lines c.deref-in-Lines.result.now c.self.view_is c.in-Lines.is c.deref-in-Lines.ensures.value c.cut_line.ensures.none c.cut_line.ensures.some).some

pub returns-in-Hands-clause-few : goal.returns-in-Hands-clause-few
returns-in-Hands-clause-few c = small_line c.deref.result.now c.cut_hand.new.scan c.self.inside.scan c.self.inside.given INPUT_MAX c.cut_hand.ensures.scan c.cut_hand.ensures.few (rw c.deref.ensures.value c.self.invariant.numbers) c.self.invariant.few

pub returns-in-Lines-clause-few : goal.returns-in-Lines-clause-few
returns-in-Lines-clause-few c = small_line c.deref-in-Lines.result.now c.cut_line.new.scan c.self.inside.scan c.self.inside.given INPUT_MAX c.cut_line.ensures.scan c.cut_line.ensures.few (rw c.deref-in-Lines.ensures.value c.self.invariant.numbers) c.self.invariant.few
