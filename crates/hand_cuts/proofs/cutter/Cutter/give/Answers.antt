use Rattle.std.proofs.Common.{◌≡◌, ◌+◌, ◌≤◌, length, ap, arith}
use Rattle.hand_cuts.specs.CutterState.{CutterState}
use Rattle.hand_cuts.specs.declared.limits.TheConstants.{INPUT_MAX}
use Rattle.hand_cuts.proofs.CutterSteps.{bound_given, scan_given}
use Rattle.hand_cuts.proofs.cutter.Cutter.give.Goals as goal

pub invariant_of-self-2 : goal.invariant_of-self-2
invariant_of-self-2 c =
    let given : c.self.inside.given ≡ c.args.self.now.given = ap (λ (v : CutterState). v.given) c.self.view_is in
    let few : c.args.self.now.given + length c.args.piece.now ≤ INPUT_MAX = c.requires.few in
    record {
      few = omega arith;
      scan = rw c.in_ok-extend_from_slice.ensures.items (scan_given c.self.inside.bytes.items c.args.piece.now c.self.inside.scan c.self.invariant.scan);
      numbers = rw c.in_ok-extend_from_slice.ensures.items (bound_given c.self.inside.bytes.items c.args.piece.now c.self.inside.scan c.self.inside.given c.self.invariant.scan c.self.invariant.numbers);
      lines = c.self.invariant.lines;
    }
