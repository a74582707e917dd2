use Rattle.std.proofs.Common.{◌≡◌, ◌+◌, ◌-◌, ◌++◌}
use Rattle.made_hands.specs.Made.{hands_text, made_text}
use Rattle.made_hands.proofs.hands.made_input.Given as goal

abbrev pub invariant-loop-index : goal.invariant-loop-index
invariant-loop-index l = l.text.items ++ hands_text (l.index + 1) l.generator.state (l.hands - l.index) ≡ made_text l.fn.seed l.fn.hands
