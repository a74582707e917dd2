use Rattle.std.proofs.Common.{◌*◌, ◌%◌, ◌/◌, ◌^◌, ap}
use Rattle.std.proofs.Math.Nat.{mod-add-mod}
use Rattle.made_hands.specs.Generator.{next_state, drawn}
use Rattle.made_hands.proofs.generator.Generator.draw.Goals as goal

pub returns-clause-state : goal.returns-clause-state
unfolding next_state
returns-clause-state c = mod-add-mod (c.args.self.now.state * 6364136223846793005) 18446744073709551616 1442695040888963407

pub returns-clause-value : goal.returns-clause-value
unfolding next_state drawn
returns-clause-value c =
    ap (λ x. x / 2 ^ 33 % c.args.m) (mod-add-mod (c.args.self.now.state * 6364136223846793005) 18446744073709551616 1442695040888963407)
