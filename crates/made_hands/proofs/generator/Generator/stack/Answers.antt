use Rattle.std.proofs.Common.{rules}
use Rattle.made_hands.specs.Deals.{stack_drawn}
use Rattle.made_hands.proofs.generator.Generator.stack.Goals as goal

pub returns-clause-value : goal.returns-clause-value
unfolding stack_drawn
returns-clause-value c = search rules
