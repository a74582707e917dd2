use Rattle.hand_choice.specs.AllowedFives.{AreFives}
use Rattle.best_five.proofs.best_of.Given as goal

abbrev pub invariant-loop-five : goal.invariant-loop-five
invariant-loop-five l = AreFives l.five-iterator
